use Rattle.std.proofs.Common.{◌∙◌, decimal, ap, refl}
use Rattle.ring_recovery.proofs.Headed.{put_line}
use Rattle.ring_recovery.proofs.heading.put_heading.Goals as goal

pub returns-clause-text : goal.returns-clause-text
returns-clause-text c =
    let text = put_line c.args.text.now.items _ c.as_bytes-number.result.now _ _ _ _ c.args.life c.in_ok-extend_from_slice.ensures.items c.in_ok-extend_from_slice-2.ensures.items c.in_ok-extend_from_slice-3.ensures.items refl
    (c.as_bytes-number.ensures.value ∙ c.format.ensures.text ∙ ap decimal c.get.ensures.value) (c.as_slice.ensures ∙ c.mark_of.ensures) in
    c.in_ok-extend_from_slice-4.ensures.items ∙ text
