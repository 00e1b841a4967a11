-- The first word of the cell.
use mathlib.Core.Path.{◌≡◌}
use Prim.Native.Nat.{◌+◌, ◌*◌}
use native.Mathlib.Omega.{arith}
use Rattle.jobs.specs.Words.{head_words}
use borrow.Author.Rules.{rules}
use Rattle.jobs.proofs.words.ReadJob.crude.Goals as goal

pub returns : goal.returns
returns c = let e : head_words c.args.self.words.now + 0 + 4 * c.args.i ≡ head_words c.args.self.words.now + 4 * c.args.i = omega arith in
    rw (← e) (search rules)
