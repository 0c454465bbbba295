-- The rule of the channel under an inbox: the inbox is legal, and each pass knows its own part of
-- it.
use Rattle.std.specs.Prelude.{ℕ, true, false, List, []}
use Rattle.ring_inbox.specs.declared.rule.Known.{Known}

module _ {T : Type 0} where
  -- the knowledge of the receiver's pass
  abbrev pub receiver : ℕ → ℕ → ℕ → List (ℕ × T) → List (ℕ × ℕ) → Known T
  receiver capacity senders made taken heard =
      record {
        sends = false;
        gets = true;
        capacity = capacity;
        senders = senders;
        number = 0;
        stored = [];
        seen = 0;
        made = made;
        taken = taken;
        heard = heard;
      }

  -- the knowledge of a sender's pass
  abbrev pub sender : ℕ → ℕ → ℕ → List T → ℕ → Known T
  sender capacity senders number stored seen =
      record {
        sends = true;
        gets = false;
        capacity = capacity;
        senders = senders;
        number = number;
        stored = stored;
        seen = seen;
        made = 0;
        taken = [];
        heard = [];
      }

  -- the knowledge of a pass that is no longer used
  abbrev pub nobody : Known T
  nobody =
      record {
        sends = false;
        gets = false;
        capacity = 0;
        senders = 0;
        number = 0;
        stored = [];
        seen = 0;
        made = 0;
        taken = [];
        heard = [];
      }
