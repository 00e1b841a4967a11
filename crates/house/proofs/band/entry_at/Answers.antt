-- Each part is small, so the entry is held exactly.
use Rattle.std.proofs.Common.{◌≡◌, ◌∙◌, lit<}
use Rattle.house.specs.Band.{squares_at, whole_entry}
use Rattle.house.proofs.Told.{word_is}
use Rattle.house.proofs.Sizes.{squares_small, entry_small}
use Rattle.house.proofs.band.entry_at.Goals as goal

pub whole_entry-whole-requires : goal.whole_entry-whole-requires
whole_entry-whole-requires c = let a = c.args in
    rw (word_is a.w c.requires.0 (lit< tt), word_is a.k c.requires.1 (lit< tt), c.squares_at-squares.ensures, word_is (squares_at a.n a.z a.i a.o) (squares_small a.n a.z a.i a.o c.requires.3) (lit< tt)) (c.requires.0, c.requires.1, squares_small a.n a.z a.i a.o c.requires.3)

pub cast-requires : goal.cast-requires
cast-requires c = let a = c.args in
    let small = squares_small a.n a.z a.i a.o c.requires.3 in
    let e : c.whole_entry-whole.result ≡ whole_entry a.w a.k (squares_at a.n a.z a.i a.o) a.o =
    c.whole_entry-whole.ensures ∙ rw (word_is a.w c.requires.0 (lit< tt), word_is a.k c.requires.1 (lit< tt), c.squares_at-squares.ensures, word_is (squares_at a.n a.z a.i a.o) small (lit< tt)) in
    let h = entry_small a.w a.k (squares_at a.n a.z a.i a.o) c.requires.0 c.requires.1 small a.o in
    rw (e, word_is (whole_entry a.w a.k (squares_at a.n a.z a.i a.o) a.o) h (lit< tt)) h
