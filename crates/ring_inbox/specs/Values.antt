-- The views of passes in contracts.
use Rattle.std.specs.Prelude.{ℕ, List, [], None}
use Rattle.crossbeam_channel.specs.Claims.{Pass}
use Rattle.crossbeam_channel.specs.declared.flavors.array.Stage.TheVariants.{Idle}
use Rattle.ring_inbox.specs.declared.rule.Known.{Known}
use Rattle.ring_inbox.specs.Rule.{nobody}

-- the name of an inbox: a pass of it that did and knows nothing, its most items, and the number of
-- its senders
pub record Name (T : Type 0) : Type 0 where
  pub blank : Pass (ℕ × T) (Known T)
  pub capacity : ℕ
  pub senders : ℕ

-- the inbox of a pass
abbrev pub name_of : {T : Type 0} → ℕ → ℕ → Pass (ℕ × T) (Known T) → Name T
name_of capacity senders pass =
    record {
      blank = record pass {
        id = 0;
        me = (record pass.me.0 { stage = Idle; at = 0; item = None; client = nobody }, []);
      };
      capacity = capacity;
      senders = senders;
    }

-- A sender: its inbox, its number there, and the items that it has stored, in order. It knows how
-- many items the receiver had taken when it last heard the receiver.
pub record SenderLog (T : Type 0) : Type 0 where
  pub inbox : Name T
  pub number : ℕ
  pub stored : List T
  pub heard : ℕ

-- The receiver: its inbox, the number of its senders, and the items taken, in order, each with its
-- sender's number. For each time that it heard a sender: that sender's number, and how many items
-- it had stored.
pub record ReceiverLog (T : Type 0) : Type 0 where
  pub inbox : Name T
  pub senders : ℕ
  pub taken : List (ℕ × T)
  pub heard : List (ℕ × ℕ)

-- a sender that has stored nothing, and heard nothing
abbrev pub fresh_sender : {T : Type 0} → Name T → ℕ → SenderLog T
fresh_sender inbox number = record { inbox = inbox; number = number; stored = []; heard = 0 }
