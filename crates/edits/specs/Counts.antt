-- The desk's tally after a list of edits: "a stopped list adds one refused, and a count at its largest number stays there".
use Rattle.std.specs.Prelude.{cond, ℕ, ◌+◌, min, eqb}
use Rattle.lists.specs.Lists.{first}
use Rattle.map.specs.Answers.{Answer}
use Rattle.edits.specs.declared.Tally.{Tally}

-- the largest count
abbrev pub most_count : ℕ
most_count = 4294967295

-- a count with so many more
unfoldable pub counted : ℕ → ℕ → ℕ
counted had more = min (had + more) most_count

-- the tally after a list with this answer: its value is the number made
unfoldable pub tally_after : Tally → Answer → Tally
tally_after t a = record {
  accepted = counted t.accepted (first 0 a.values);
  refused = cond (eqb a.refusal 0) t.refused (counted t.refused 1);
}
