-- Appending to a list is a sink's way to take bytes.
use Rattle.std.specs.Prelude.{ℕ, List, ◌++◌, refl}
use Rattle.std.proofs.Common.{sym, append_assoc, append-nil}
use Rattle.ring_grammar.specs.Sinks.{IsSequence}
use Rattle.ring_grammar.specs.Appending.{Appends, AppendsFront}

-- appending is putting one piece after another
pub appends_in_sequence : {S : Type 0} (bytes_of : S → List ℕ) → IsSequence (λ a text b. Appends (bytes_of a) text (bytes_of b)) (λ a text b. AppendsFront (bytes_of a) text (bytes_of b))
appends_in_sequence bytes_of = record {
  none = λ a. sym (append-nil (bytes_of a));
  then = λ a b c first second p q. rw (q, p, append_assoc) refl;
  front = λ a b first second p. record { front = p.front; rest = p.rest ++ second; whole = rw (p.whole, append_assoc) refl; appended = p.appended };
  then_front = λ a b c first second p q. record { front = first ++ q.front; rest = q.rest; whole = rw (q.whole, append_assoc) refl; appended = rw (q.appended, p, append_assoc) refl };
}
