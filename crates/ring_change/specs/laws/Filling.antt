-- Filling a line of at most 70 bytes is a sink's way to take bytes.
use Rattle.std.specs.Prelude.{◌≡◌, ℕ, List, ◌++◌, length, refl}
use Rattle.std.proofs.Common.{arith, length-append}
use Rattle.ring_grammar.specs.Appending.{Appends}
use Rattle.ring_grammar.specs.Sinks.{IsSequence}
use Rattle.ring_grammar.specs.laws.Appending.{appends_in_sequence}
use Rattle.ring_change.specs.Filling.{Overfills}

-- filling is putting one piece after another
pub fills_in_sequence : {S : Type 0} (bytes_of : S → List ℕ)
    → IsSequence
    (λ a text b. Appends (bytes_of a) text (bytes_of b))
    (λ a text b. Overfills (bytes_of a) text (bytes_of b))
fills_in_sequence {S} bytes_of =
    let appends = appends_in_sequence bytes_of in
    record {
      none = appends.none;
      then = appends.then;
      front = λ a b first second p. record {
        appended = appends.front a b first second p.appended;
        long = omega (arith, length-append first second, p.long);
      };
      then_front = λ a b c first second p q. record {
        appended = appends.then_front a b c first second p q.appended;
        long =
            let size : length (bytes_of b) ≡ length (bytes_of a ++ first) = rw p refl in
            omega (arith, length-append first second, length-append (bytes_of a) first, q.long);
      };
    }
