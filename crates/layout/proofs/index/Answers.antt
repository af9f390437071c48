-- `layout::index` meets its contract: the record's refusal, then the position's, then the place. Assumes nothing.
use borrow.Author.Tests.{le-leb, lt-leb}
use mathlib.Core.Path.{ap, ◌∙◌}
use native.Mathlib.Omega.{arith}
use Rattle.answer.specs.Outcome.{done, Sound, here, next, none}
use Rattle.answer.proofs.Handed.{handed}
use Rattle.answer.proofs.Promised.{refusing, finishing, first_more, sound_then, sound_more, passed, stopped}
use Rattle.layout.specs.Layout.{record_faults, index_faults, source_index}
use Rattle.layout.proofs.index.Goals.{In_ok-check_record}
use Rattle.layout.proofs.index.Goals as goal

shown : (c : In_ok-check_record) → Sound (record_faults c.args.l)
shown c =
    passed _ c.check_record.result c.check_record.ensures c.in_ok-check_record.was

pub returns-then-l-k : goal.returns-then-l-k
returns-then-l-k c =
    let l = c.args.l in
    let k = c.args.k.0 in refusing (index_faults l k) (source_index l k) (sound_then (shown (goal.at.returns-then-l-k c).In_ok-check_record) (here (le-leb l.output_len k (omega arith))))

pub source_index-requires : goal.source_index-requires
source_index-requires c =
    record { sound = shown (goal.at.source_index-requires c).In_ok-check_record; within = omega arith }

pub returns-in_err-check_record : goal.returns-in_err-check_record
returns-in_err-check_record c =
    let l = c.args.l in
    let k = c.args.k.0 in
    rw (handed c.from_residual.result _ c.from_residual.ensures) (refusing (index_faults l k) (source_index l k) (first_more _ (stopped (record_faults l) _ _ c.check_record.ensures c.in_err-check_record.was)))

pub returns : goal.returns
returns c =
    let l = c.args.l in
    let k = c.args.k.0 in
    ap done c.source_index.ensures ∙ finishing (index_faults l k) (source_index l k) (sound_more (shown (goal.at.returns c).In_ok-check_record) (next (lt-leb l.output_len k (omega arith)) none))
