-- The lowest value and then the lowest multiplier that is not allowed, else the check's verdict.
use mathlib.Core.Path.{◌∙◌}
use Rattle.jobs.specs.Words.{job_of}
use Rattle.shelf.specs.Fetched.{most_value, most_multiplier}
use Rattle.shelf.proofs.Judged.{all_allowed, value_six, multiplier_six, none_six}
use Rattle.shelf.proofs.kept.Kept.verdict.Goals as goal

pub returns-then-cell-self : goal.returns-then-cell-self
returns-then-cell-self c = let a = c.args.self in
    let cell = c.lowest_above-cell in
    value_six (job_of a.job.words.now) a.values.now a.multipliers.now cell.result cell.ensures c.if-cell-self.true

pub returns-then-link-self : goal.returns-then-link-self
returns-then-link-self c = let a = c.args.self in
    let cell = c.lowest_above-cell in
    let link = c.lowest_above-link in
    multiplier_six (job_of a.job.words.now) a.values.now a.multipliers.now cell.result cell.ensures c.if-cell-self.false link.result link.ensures c.if-link-self.true

pub judge-requires : goal.judge-requires
judge-requires c = let a = c.args.self in
    let cell = c.lowest_above-cell in
    let link = c.lowest_above-link in
    record {
      values_small = all_allowed most_value a.values.now cell.result cell.ensures c.if-cell-self.false;
      multipliers_small = all_allowed most_multiplier a.multipliers.now link.result link.ensures c.if-link-self.false;
    }

pub returns : goal.returns
returns c = let a = c.args.self in
    let cell = c.lowest_above-cell in
    let link = c.lowest_above-link in
    c.judge.ensures
    ∙ none_six (job_of a.job.words.now) a.values.now a.multipliers.now cell.result cell.ensures c.if-cell-self.false link.result link.ensures c.if-link-self.false
