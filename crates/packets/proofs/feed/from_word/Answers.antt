-- `packets::feed::from_word` meets its contract: whole words, and the bytes of a begun word. Assumes nothing.
use Rattle.packets.proofs.Wordstart.{served-width, end_room, words-first, rest_fits, rest_held}
use Rattle.packets.proofs.feed.from_word.Goals as goal

pub past-requires : goal.past-requires
past-requires c =
    served-width c.requires.feeds

pub slice_bounds-words-end-2 : goal.slice_bounds-words-end-2
slice_bounds-words-end-2 c =
    end_room c.requires c.past.result c.past.ensures

pub words-requires : goal.words-requires
words-requires c =
    words-first c.requires c.past.result c.past.ensures

pub hold-requires : goal.hold-requires
hold-requires c =
    rest_fits c.requires c.past.result c.past.ensures c.words.ensures

pub returns : goal.returns
returns c =
    rest_held c.requires c.past.result c.past.ensures c.words.ensures c.hold.ensures
