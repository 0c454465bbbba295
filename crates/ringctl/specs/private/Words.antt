-- The lines that the program sends.
use Rattle.std.specs.Prelude.{◌≡◌, ℕ, Bool, true, false, List, string_bytes}
use Rattle.ring_any.specs.declared.any.Any.{Any}
use Rattle.ring_events.specs.declared.event.Command.{Command}
use Rattle.ring_events.specs.declared.event.Command.TheVariants.{Join}
use Rattle.ring_events.specs.declared.event.Event.TheVariants.{Client}
use Rattle.ring_grammar.specs.Spelling.{Spells}
use Rattle.ringctl.specs.declared.words.Order.{Order}
use Rattle.ringctl.specs.declared.words.Order.TheVariants.{Session, Ask, Campaign, Watch}

-- The bytes of a line spell no command of a client.
abbrev pub SpellsNoCommand : List ℕ → Type 0
SpellsNoCommand line = (command : Command Any) → Spells line (Client command) → ⊥

-- The order sends this line, which spells a command of a client.
abbrev pub IsAsk : List ℕ → Order → Type 0
IsAsk line Session = ⊥
IsAsk line (Ask text) =
    (string_bytes text ≡ line) × ((command : Command Any) × Spells line (Client command))
IsAsk line (Campaign _) = ⊥
IsAsk line (Watch _ _) = ⊥

-- the command is a join
abbrev pub joins : Command Any → Bool
joins (Join _ _) = true
joins _ = false

-- The bytes of a line spell no join.
abbrev pub SpellsNoJoin : List ℕ → Type 0
SpellsNoJoin line =
    (command : Command Any) → joins command ≡ true → Spells line (Client command) → ⊥

-- The order sends this line, which spells a join, to the port of the campaigns.
abbrev pub IsCampaign : List ℕ → Order → Type 0
IsCampaign line Session = ⊥
IsCampaign line (Ask _) = ⊥
IsCampaign line (Campaign text) =
    (string_bytes text ≡ line)
    × ((command : Command Any) × (joins command ≡ true) × Spells line (Client command))
IsCampaign line (Watch _ _) = ⊥
