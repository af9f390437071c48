-- `directory::strips::fill_parts` meets its contract: two numbers a turn. Assumes nothing.
use Rattle.directory.proofs.Filling.{length-number, parts_more, place-number}
use Rattle.directory.specs.Page.{part_number}
use mathlib.Core.Path.{◌∙◌, sym}
use native.Mathlib.Omega.{arith}
use Rattle.directory.proofs.strips.fill_parts.Goals as goal

pub loop-k-preserved : goal.loop-k-preserved
loop-k-preserved c =
    let file = c.args.file.now in
    let s = c.args.s in
    let k = c.loop-k.k in
    parts_more (part_number file s) _ _ k _ _ c.loop-k.invariant (omega (arith, c.requires, c.loop-k-test.true)) (c.place_of.ensures ∙ sym (place-number file s k)) (c.length_of.ensures ∙ sym (length-number file s k))
