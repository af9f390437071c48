-- `packets::feed::finish` meets its contract: nothing was cut, or the word is put together, converted and forgotten. Assumes nothing.
use native.Mathlib.Omega.{arith}
use mathlib.Core.Path.{◌≡◌, sym, subst}
use mathlib.Core.List.{List}
use Prim.Native.Nat.{ℕ, ◌<◌}
use lib.ListN.{length}
use Rattle.packets.specs.Promises.{no_tail}
use Rattle.packets.specs.Steps.{BytesFed}
use Rattle.packets.proofs.Tails.{overwritten}
use Rattle.packets.proofs.Finish.{uncut_fed, cut_fits, tail_long, tail_room, one_word, word-fed}
use Rattle.packets.proofs.feed.finish.Goals.{After-hold}
use Rattle.packets.proofs.feed.finish.Goals as goal

some : (c : After-hold) → 0 < c.args.fill
some c =
    omega arith

pub returns-then-fill-eq0 : goal.returns-then-fill-eq0
returns-then-fill-eq0 c =
    uncut_fed c.requires (omega arith)

pub hold-requires : goal.hold-requires
hold-requires c =
    cut_fits c.requires (omega arith)

pub slice_bounds-word-end : goal.slice_bounds-word-end
slice_bounds-word-end c =
    tail_room c.requires (some (goal.at.slice_bounds-word-end c).After-hold) _ c.hold.ensures

pub word-requires : goal.word-requires
word-requires c =
    one_word c.requires (some (goal.at.word-requires c).After-hold) _ c.hold.ensures

pub returns : goal.returns
unfolding no_tail
returns c =
    let long : length c.hold.new.tail ≡ 8 = tail_long c.requires (some (goal.at.returns c).After-hold) _ c.hold.ensures in
    let args = c.args in
    let empty : c.hold-2.new.tail ≡ no_tail = overwritten c.hold.new.tail no_tail (sym long) c.hold-2.ensures in
    subst (λ (l : List ℕ). BytesFed args.plan args.received args.bytes.now args.tail.now args.sums.now args.out.now l c.word.new.sums c.word.new.out) (sym empty)
    (word-fed c.requires (some (goal.at.returns c).After-hold) _ c.hold.ensures c.word.ensures)
