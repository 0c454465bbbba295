-- The answer of an access to a line, with its place.
use Rattle.std.proofs.Common.{◌+◌, ◌<◌, ℕ, List, refl}
use Rattle.ring_id.specs.declared.refusal.Refusal.TheVariants.{BadLine}
use Rattle.ring_any.specs.Any.{any_greatest, any_two_way, any_winner}
use Rattle.ring_any.specs.declared.any.Any.{Any}
use Rattle.ring_events.specs.declared.event.Command.{Command}
use Rattle.ring_events.specs.declared.event.Event.TheVariants.{Client}
use Rattle.ring_grammar.specs.Spelling.{Spells}
use Rattle.ring_table.specs.Accesses.{AnswersAtSeat}
use Rattle.ring_table.specs.Places.{HasPlaceBelow}
use Rattle.ring_service.specs.Places.{PlacesIn}
use Rattle.ring_service.specs.private.Placing.{told_from}
use Rattle.ring_table.specs.declared.access.Answer.{Answer}
use Rattle.ring_table.specs.declared.access.Answer.TheVariants.{Placed, Unplaced}
use Rattle.ring_table.specs.declared.entry.Entry.{Entry}
use Rattle.ring_table.specs.declared.entry.Entry.TheVariants.{Call}
use Rattle.ring_service.proofs.Replying.{answers_line, unread_line}

-- a line that spells a command is answered by the access's answer to it
pub places_line : (base most session : ℕ) (line : List ℕ) (command : Command Any) (mine : List (Entry Any)) (answer : Answer) (now : List (Entry Any)) →
    Spells line (Client command) → AnswersAtSeat any_winner any_two_way any_greatest session command mine answer now → HasPlaceBelow most answer → PlacesIn base most session line mine (told_from base answer) now
places_line base most session line command mine (Placed reply place) now spelled a below =
    (answers_line session line command mine (Placed reply place) now spelled a, ((place, below, refl), (Call session command reply, a.1)))
places_line base most session line command mine (Unplaced refusal) now spelled a below = (answers_line session line command mine (Unplaced refusal) now spelled a, a.1)

-- a line that spells none is refused, and has no place
pub unread_place : (base most session : ℕ) (line : List ℕ) (mine : List (Entry Any)) → ((command : Command Any) → Spells line (Client command) → ⊥) → PlacesIn base most session line mine (Unplaced BadLine) mine
unread_place base most session line mine unread = (unread_line session line mine unread, refl)
