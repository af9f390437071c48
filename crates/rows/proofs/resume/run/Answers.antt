-- `rows::resume::run` meets its contract: up to a pixel's start, and from there on. Assumes nothing.
use Rattle.std.proofs.Common.{◌≡◌, ◌%◌, ◌≤◌, length, refl, arith}
use Rattle.rows.proofs.Joining.{lead_inside, lead_words, lead_on, front-run, back-run, both_ran}
use Rattle.rows.proofs.resume.run.Goals.{After-leading-lead}
use Rattle.rows.proofs.resume.run.Goals as goal

inside : (c : After-leading-lead) → c.leading-lead.result ≤ length c.args.raw.now
inside c =
    lead_inside c.requires c.leading-lead.result c.leading-lead.ensures

in_words : (c : After-leading-lead) → c.leading-lead.result % c.args.form.width ≡ 0
in_words c =
    lead_words c.requires c.leading-lead.result c.leading-lead.ensures

pub words-requires : goal.words-requires
words-requires c =
    front-run c.args.form.le c.args.form.out_le c.requires c.leading-lead.result (inside (goal.at.words-requires c).After-leading-lead) (in_words (goal.at.words-requires c).After-leading-lead)

pub from_pixel-requires : goal.from_pixel-requires
from_pixel-requires c =
    back-run c.args.form.le c.args.form.out_le c.requires c.leading-lead.result (inside (goal.at.from_pixel-requires c).After-leading-lead) (in_words (goal.at.from_pixel-requires c).After-leading-lead) c.words.ensures 0 (omega (arith, c.requires.here))

pub returns : goal.returns
returns c =
    both_ran c.args.form.le c.args.form.out_le c.requires c.leading-lead.result (inside (goal.at.returns c).After-leading-lead) (in_words (goal.at.returns c).After-leading-lead) c.words.ensures refl (lead_on c.requires c.leading-lead.result c.leading-lead.ensures c.from_pixel.ensures)
