-- If each part of the text is an address, the parts are the addresses.
use Rattle.std.proofs.Common.{inl, lit<, map, ◌≡◌}
use Rattle.std.proofs.lemmas.Iterator.Consumers.{map_from_collect}
use Rattle.std.proofs.lemmas.Iterator.Splits.{YieldsList-from_str_split}
use Rattle.ringctl.specs.Addresses.{Names, parts_of}
use Rattle.ringctl.proofs.Cuts.{ok_then}
use Rattle.ringctl.proofs.addresses.addresses_of.Goals as goal

pub returns-then-are_addresses : goal.returns-then-are_addresses
returns-then-are_addresses c =
    let text = c.args.text.now in
    let each = c.are_addresses.ensures.0 c.if-are_addresses.true in
    ok_then _ (λ v. map (λ a. a.now) v.items ≡ parts_of text) (λ v. Names text (map (λ a. a.now) v.items)) (λ v same. inl (each, same))
    (map_from_collect _ c.collect.ensures.ran (YieldsList-from_str_split 44 text (lit< tt) c.split.ensures.text c.split.ensures.has_more c.split.ensures.pattern))
