-- That putting text on a page is a sink's way to take bytes.
use Rattle.std.specs.Prelude.{refl}
use Rattle.std.proofs.Common.{◌∙◌}
use Rattle.ring_grammar.specs.Appending.{Appends, AppendsFront}
use Rattle.ring_grammar.specs.Sinks.{IsSequence}
use Rattle.ring_grammar.specs.laws.Appending.{appends_in_sequence}
use Rattle.ring_lines.specs.Page.{Gains, GainsFront, PageView}

-- putting text on a page is putting one piece after another
pub gains_in_sequence : IsSequence Gains GainsFront
gains_in_sequence =
    let appends = appends_in_sequence (λ (page : PageView). page.text) in
    record {
      none = λ a. record { text = appends.none a; same_size = refl };
      then = λ a b c first second p q. record { text = appends.then a b c first second p.text q.text; same_size = q.same_size ∙ p.same_size };
      front = λ a b first second p. record { text = appends.front a b first second p.text; same_size = p.same_size };
      then_front = λ a b c first second p q. record { text = appends.then_front a b c first second p.text q.text; same_size = q.same_size ∙ p.same_size };
    }
