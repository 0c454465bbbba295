-- The kinds of the sum: the states and the messages of each.
use Rattle.std.specs.Prelude.{◌≡◌, ℕ, Option, Some, None, refl}
use Rattle.ring_chang.specs.declared.chang.ChangState.{ChangState}
use Rattle.ring_hirschberg.specs.declared.hirschberg.HirschbergMsg.{HirschbergMsg}
use Rattle.ring_hirschberg.specs.declared.hirschberg.HirschbergMsg.TheVariants as token
use Rattle.ring_hirschberg.specs.declared.hirschberg.HirschbergState.{HirschbergState}
use Rattle.ring_lelann.specs.LeLann.{Knowledge}
use Rattle.ring_peterson.specs.declared.peterson.PetersonState.{PetersonState}
use Rattle.ring_any.specs.declared.any.AnyMsg.{AnyMsg}
use Rattle.ring_any.specs.declared.any.AnyMsg.TheVariants as message
use Rattle.ring_any.specs.declared.any.AnyState.{AnyState}
use Rattle.ring_any.specs.declared.any.AnyState.TheVariants as state
use Rattle.ring_any.specs.Variants.{Variant}

-- a state of LeLann
abbrev pub lelann_state : AnyState → Option Knowledge
lelann_state (state.LeLann s) = Some s
lelann_state _ = None

-- a message of LeLann
abbrev pub lelann_message : AnyMsg → Option ℕ
lelann_message (message.LeLann v) = Some v
lelann_message _ = None

-- no other state is one of LeLann
pub lelann_state-own : (w : AnyState) (s : Knowledge) → lelann_state w ≡ Some s → w ≡ state.LeLann s
lelann_state-own (state.LeLann _) s is = cc
lelann_state-own _ s is = cc

-- no other message is one of LeLann
pub lelann_message-own : (w : AnyMsg) (v : ℕ) → lelann_message w ≡ Some v → w ≡ message.LeLann v
lelann_message-own (message.LeLann _) v is = cc
lelann_message-own _ v is = cc

-- the states of LeLann
abbrev pub lelann_states : Variant AnyState Knowledge
lelann_states =
    record {
      put = λ s. state.LeLann s;
      of = lelann_state;
      of_put = λ _. refl;
      put_of = lelann_state-own;
    }

-- the messages of LeLann
abbrev pub lelann_messages : Variant AnyMsg ℕ
lelann_messages =
    record {
      put = λ v. message.LeLann v;
      of = lelann_message;
      of_put = λ _. refl;
      put_of = lelann_message-own;
    }

-- a state of Chang
abbrev pub chang_state : AnyState → Option ChangState
chang_state (state.Chang s) = Some s
chang_state _ = None

-- a message of Chang
abbrev pub chang_message : AnyMsg → Option ℕ
chang_message (message.Chang v) = Some v
chang_message _ = None

-- no other state is one of Chang
pub chang_state-own : (w : AnyState) (s : ChangState) → chang_state w ≡ Some s → w ≡ state.Chang s
chang_state-own (state.Chang _) s is = cc
chang_state-own _ s is = cc

-- no other message is one of Chang
pub chang_message-own : (w : AnyMsg) (v : ℕ) → chang_message w ≡ Some v → w ≡ message.Chang v
chang_message-own (message.Chang _) v is = cc
chang_message-own _ v is = cc

-- the states of Chang
abbrev pub chang_states : Variant AnyState ChangState
chang_states =
    record {
      put = λ s. state.Chang s;
      of = chang_state;
      of_put = λ _. refl;
      put_of = chang_state-own;
    }

-- the messages of Chang
abbrev pub chang_messages : Variant AnyMsg ℕ
chang_messages =
    record {
      put = λ v. message.Chang v;
      of = chang_message;
      of_put = λ _. refl;
      put_of = chang_message-own;
    }

-- a state of Hirschberg
abbrev pub hirschberg_state : AnyState → Option HirschbergState
hirschberg_state (state.Hirschberg s) = Some s
hirschberg_state _ = None

-- a message of Hirschberg
abbrev pub hirschberg_message : AnyMsg → Option HirschbergMsg
hirschberg_message (message.Out v hops) = Some (token.Out v hops)
hirschberg_message (message.Back v) = Some (token.Back v)
hirschberg_message _ = None

-- a token as a message of the sum
abbrev pub token_put : HirschbergMsg → AnyMsg
token_put (token.Out v hops) = message.Out v hops
token_put (token.Back v) = message.Back v

-- a token put into the sum is a message of Hirschberg
pub hirschberg_message-put : (v : HirschbergMsg) → hirschberg_message (token_put v) ≡ Some v
hirschberg_message-put (token.Out v hops) = refl
hirschberg_message-put (token.Back v) = refl

-- no other state is one of Hirschberg
pub hirschberg_state-own : (w : AnyState) (s : HirschbergState) → hirschberg_state w ≡ Some s
    → w ≡ state.Hirschberg s
hirschberg_state-own (state.Hirschberg _) s is = cc
hirschberg_state-own _ s is = cc

-- no other message is one of Hirschberg
pub hirschberg_message-own : (w : AnyMsg) (v : HirschbergMsg) → hirschberg_message w ≡ Some v
    → w ≡ token_put v
hirschberg_message-own (message.Out _ _) (token.Out _ _) is = cc
hirschberg_message-own (message.Out _ _) (token.Back _) is = cc
hirschberg_message-own (message.Back _) (token.Out _ _) is = cc
hirschberg_message-own (message.Back _) (token.Back _) is = cc
hirschberg_message-own _ v is = cc

-- the states of Hirschberg
abbrev pub hirschberg_states : Variant AnyState HirschbergState
hirschberg_states =
    record {
      put = λ s. state.Hirschberg s;
      of = hirschberg_state;
      of_put = λ _. refl;
      put_of = hirschberg_state-own;
    }

-- the messages of Hirschberg
abbrev pub hirschberg_messages : Variant AnyMsg HirschbergMsg
hirschberg_messages =
    record {
      put = token_put;
      of = hirschberg_message;
      of_put = hirschberg_message-put;
      put_of = hirschberg_message-own;
    }

-- a state of Peterson
abbrev pub peterson_state : AnyState → Option PetersonState
peterson_state (state.Peterson s) = Some s
peterson_state _ = None

-- a message of Peterson
abbrev pub peterson_message : AnyMsg → Option ℕ
peterson_message (message.Peterson v) = Some v
peterson_message _ = None

-- no other state is one of Peterson
pub peterson_state-own : (w : AnyState) (s : PetersonState) → peterson_state w ≡ Some s
    → w ≡ state.Peterson s
peterson_state-own (state.Peterson _) s is = cc
peterson_state-own _ s is = cc

-- no other message is one of Peterson
pub peterson_message-own : (w : AnyMsg) (v : ℕ) → peterson_message w ≡ Some v
    → w ≡ message.Peterson v
peterson_message-own (message.Peterson _) v is = cc
peterson_message-own _ v is = cc

-- the states of Peterson
abbrev pub peterson_states : Variant AnyState PetersonState
peterson_states =
    record {
      put = λ s. state.Peterson s;
      of = peterson_state;
      of_put = λ _. refl;
      put_of = peterson_state-own;
    }

-- the messages of Peterson
abbrev pub peterson_messages : Variant AnyMsg ℕ
peterson_messages =
    record {
      put = λ v. message.Peterson v;
      of = peterson_message;
      of_put = λ _. refl;
      put_of = peterson_message-own;
    }
