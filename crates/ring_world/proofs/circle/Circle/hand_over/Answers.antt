-- The receiver is the node at that place, and the world after its receipt is sound; without it nothing has changed.
use Rattle.std.proofs.Common.{◌≡◌, ◌<◌, length, ◌∙◌, arith}
use Rattle.std.proofs.lemmas.List.{set-get_or}
use Rattle.std.proofs.lemmas.Result.{on_err_weaker, on_ok_weaker}
use Rattle.ring_world.proofs.Answering.{in_both, of_answer}
use Rattle.ring_world.proofs.Deliveries.{news_after, node_there, place_within, view_after, world_after}
use Rattle.ring_world.proofs.circle.Circle.hand_over.Goals as goal

pub index_mut-node-requires : goal.index_mut-node-requires
index_mut-node-requires g c =
    let nodes = c.self.inside.nodes in
    let below : c.args.position < length nodes.items = place_within _ _ _ _ _ _ c.self.invariant c.args.position (rw (← c.self.view_is) at c.requires.inside) in
    omega (arith, below, nodes.ok.0)

pub accept-requires : goal.accept-requires
accept-requires g c =
    let inside = rw (← c.self.view_is) at c.requires.inside in
    rw (node_there _ _ _ _ _ _ c.self.invariant c.args.position inside _ c.index_mut-node.ensures.value) (rw (← c.self.view_is) at c.requires.proper)

pub invariant_of-self : goal.invariant_of-self
invariant_of-self g c =
    let inside = rw (← c.self.view_is) at c.requires.inside in
    let node = node_there _ _ _ _ _ _ c.self.invariant c.args.position inside _ c.index_mut-node.ensures.value in
    in_both c.accept.result c.accept.ensures.journal c.accept.ensures.faithful c.accept.ensures.err
    (λ gained faithful. world_after _ _ _ _ _ _ c.self.invariant c.args.position (place_within _ _ _ _ _ _ c.self.invariant c.args.position inside) c.args.side c.args.packet (rw (← c.self.view_is) at c.requires.front) _ (rw node at gained) faithful)
    (λ same. rw (same ∙ c.index_mut-node.ensures.value, set-get_or c.self.inside.nodes.items c.args.position c.index_mut-node.result.now) c.self.invariant)

pub returns-clause-journals : goal.returns-clause-journals
returns-clause-journals g c =
    let inside = rw (← c.self.view_is) at c.requires.inside in
    let node = node_there _ _ _ _ _ _ c.self.invariant c.args.position inside _ c.index_mut-node.ensures.value in
    on_ok_weaker c.accept.result (λ gained. rw (← c.self.view_is) (view_after _ _ _ _ _ _ c.self.invariant c.args.position inside c.args.side c.args.packet _ (rw node at gained))) c.accept.ensures.journal

pub returns-clause-news : goal.returns-clause-news
returns-clause-news g c =
    let inside = rw (← c.self.view_is) at c.requires.inside in
    let node = node_there _ _ _ _ _ _ c.self.invariant c.args.position inside _ c.index_mut-node.ensures.value in
    of_answer c.accept.result c.accept.ensures.journal c.accept.ensures.news
    (λ journal leader is.
    let gained = rw node at journal in
    rw (← c.self.view_is) ((rw (node, gained) at is) ∙ news_after _ _ _ _ _ _ c.self.invariant c.args.position inside c.args.side c.args.packet _ gained))

pub returns-clause-err : goal.returns-clause-err
returns-clause-err g c =
    on_err_weaker c.accept.result
    (λ (same : c.accept.new.self ≡ c.index_mut-node.result.now). rw (same ∙ c.index_mut-node.ensures.value, set-get_or c.self.inside.nodes.items c.args.position c.index_mut-node.result.now) c.self.view_is)
    c.accept.ensures.err

pub returns-clause-sound : goal.returns-clause-sound
returns-clause-sound g c = (invariant_of-self g c).sound
