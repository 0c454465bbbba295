-- Goings: how what happens to some nodes happens to all, and one thing after another.
use Rattle.std.proofs.Common.{List, [], ◌++◌, refl, sym, ap, ◌∙◌, inl, inr, append_assoc}
use Rattle.std.proofs.lemmas.List.{append-nil}
use Rattle.ring_election.specs.Tables.{Table}
use Rattle.ring_node.specs.Envelopes.{Sent}
use Rattle.ring_node.specs.Nodes.{Seated}
use Rattle.ring_workers.specs.private.Goings.{Goes, Grows}
use Rattle.ring_workers.specs.Goings.{HasReceived}
use Rattle.ring_workers.proofs.Among.{among_left, among_right, among_append}

-- a node is later what it was
pub grows_none : {E M : Type 0} (node : Seated E M) → Grows node node
grows_none node = record { more = []; charter_is = refl; position_is = refl; journal_is = sym (append-nil node.journal) }

-- a node that has grown twice has grown
pub grows_on : {E M : Type 0} (a b c : Seated E M) → Grows a b → Grows b c → Grows a c
grows_on a b c ab bc = record {
  more = ab.more ++ bc.more;
  charter_is = bc.charter_is ∙ ab.charter_is;
  position_is = bc.position_is ∙ ab.position_is;
  journal_is = bc.journal_is ∙ ap (λ l. l ++ bc.more) ab.journal_is ∙ append_assoc a.journal ab.more bc.more;
}

-- a receipt of some nodes is a receipt of all
pub received_among : {E M : Type 0} (before nodes after : List (Seated E M)) (e : Sent E M) → HasReceived nodes e → HasReceived (before ++ (nodes ++ after)) e
received_among before nodes after e h = record {
  node = h.node;
  there = among_right before (nodes ++ after) h.node (among_left nodes after h.node h.there);
  led = h.led;
  place = h.place;
  taken = h.taken;
  index = h.index;
}

module _ {E S M : Type 0} (t : E → Table S M) where
  -- nothing happens
  pub goes_none : (nodes : List (Seated E M)) (waiting : List (Sent E M)) → Goes t nodes nodes waiting waiting
  goes_none nodes waiting = record {
    more = [];
    behind = sym (append-nil waiting);
    stays = λ node h. (node, h, grows_none node);
    posted = λ node h e sent. inl (node, h, sent);
  }

  -- one thing happens after another
  pub goes_on : (a b c : List (Seated E M)) (u v w : List (Sent E M)) → Goes t a b u v → Goes t b c v w → Goes t a c u w
  goes_on a b c u v w ab bc = record {
    more = ab.more ++ bc.more;
    behind = bc.behind ∙ ap (λ l. l ++ bc.more) ab.behind ∙ append_assoc u ab.more bc.more;
    stays = λ node h.
        let mid = ab.stays node h in
        let end = bc.stays mid.0 mid.1 in
        (end.0, end.1, grows_on node mid.0 end.0 mid.2 end.2);
    posted = λ node h e sent.
        elim (bc.posted node h e sent) [
          | inl mid ↦ elim (ab.posted mid.0 mid.1 e mid.2) [
            | inl first ↦ inl first
            | inr among ↦ inr (among_left ab.more bc.more e among)
          ]
          | inr among ↦ inr (among_right ab.more bc.more e among)
        ];
  }

  -- what happens to some of the nodes
  pub goes_among : (before old new after : List (Seated E M)) (u w : List (Sent E M)) → Goes t old new u w → Goes t (before ++ (old ++ after)) (before ++ (new ++ after)) u w
  goes_among before old new after u w goes = record {
    more = goes.more;
    behind = goes.behind;
    stays = λ node h.
        elim (among_append before (old ++ after) node h) [
          | inl first ↦ (node, among_left before (new ++ after) node first, grows_none node)
          | inr rest ↦ elim (among_append old after node rest) [
            | inl mid ↦ (let later = goes.stays node mid in (later.0, among_right before (new ++ after) later.0 (among_left new after later.0 later.1), later.2))
            | inr last ↦ (node, among_right before (new ++ after) node (among_right new after node last), grows_none node)
          ]
        ];
    posted = λ node h e sent.
        elim (among_append before (new ++ after) node h) [
          | inl first ↦ inl (node, among_left before (old ++ after) node first, sent)
          | inr rest ↦ elim (among_append new after node rest) [
            | inl mid ↦ elim (goes.posted node mid e sent) [
              | inl old_one ↦ inl (old_one.0, among_right before (old ++ after) old_one.0 (among_left old after old_one.0 old_one.1), old_one.2)
              | inr more ↦ inr more
            ]
            | inr last ↦ inl (node, among_right before (old ++ after) node (among_right old after node last), sent)
          ]
        ];
  }
