-- `packet_numbers::piece` meets its promise: numbers that stand for no state are refused, else their parts are lent. Assumes nothing.
use mathlib.Core.Path.{◌≡◌, sym, ◌∙◌}
use mathlib.Core.Bool.{false}
use Rattle.answer.proofs.Handed.{handed}
use Rattle.laws.proofs.Says.{clash}
use Rattle.packet_numbers.specs.Numbers.{strays}
use Rattle.packet_numbers.proofs.Taking.{numbers-refused, numbers-done}
use Rattle.packet_numbers.proofs.piece.Goals.{Else-strays}
use Rattle.packet_numbers.proofs.piece.Goals as goal

kept : (c : Else-strays) → strays c.args.s.now ≡ false
kept c =
    sym c.strays.ensures ∙ c.if-strays.false

pub returns-in_err-n : goal.returns-in_err-n
returns-in_err-n c =
    rw (handed c.from_residual.result _ c.from_residual.ensures)
    (record { kept = λ e. numbers-refused c.args.s.now (kept (goal.at.returns-in_err-n c).Else-strays) c.plan_of-plan.ensures c.tail_of-tail.ensures c.lent_piece.ensures _ c.in_err-n.was; strayed = λ e. clash e (kept (goal.at.returns-in_err-n c).Else-strays) })

pub returns : goal.returns
returns c =
    record { kept = λ e. numbers-done c.args.s.now (kept (goal.at.returns c).Else-strays) c.plan_of-plan.ensures c.tail_of-tail.ensures c.lent_piece.ensures c.in_ok-n.was c.word_of.ensures.0 c.word_of.ensures.1; strayed = λ e. clash e (kept (goal.at.returns c).Else-strays) }
