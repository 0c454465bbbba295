-- A leave is the word, the group's name and the node's number.
use Rattle.std.proofs.Common.{◌≡◌, codes, refl, rules}
use Rattle.ring_grammar.proofs.parse.event_of_three.Goals as goal

pub returns-in_ok-node_number : goal.returns-in_ok-node_number
returns-in_ok-node_number c =
    let word : c.args.word.now ≡ codes "leave" = search rules in
    ((c.in_ok-group.ensures.0, c.in_ok-node_number.ensures.0), rw (word, c.in_ok-group.ensures.1, c.in_ok-node_number.ensures.1) refl)
