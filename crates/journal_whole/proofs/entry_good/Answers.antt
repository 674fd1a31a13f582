-- `journal_whole::entry_good` meets its contract.
use mathlib.Core.Path.{◌≡◌, refl}
use mathlib.Core.Bool.{false}
use native.Mathlib.Decide.{ℕ_discrete}
use native.Mathlib.Omega.{arith}
use Rattle.shapes.proofs.Facts.{facts}
use Rattle.journal_store.specs.Journals.{licence_in}
use Rattle.journal_store.proofs.Reading.{told_insert, told_remove}
use Rattle.journal_whole.specs.Checks.{EntryGood}
use Rattle.journal_whole.proofs.Edits.{good_other, good_type, good_licence, good_insert, good_remove}
use Rattle.journal_whole.proofs.entry_good.Goals as goal

pub overflow_sub-n : goal.overflow_sub-n
overflow_sub-n c = omega (arith, c.mark_count-n.ensures, (facts c.type_of-t.result).marks)

pub returns-in-Some-Insert : goal.returns-in-Some-Insert
returns-in-Some-Insert c =
    let given = c.args in
    good_insert given.j.now given.k _ _ _ refl c.type_of-t.ensures c.marks_at-at.ensures (told_insert _ _ c.in-Some-Insert.ensures c.in-Some-Insert.field-0-is) _ _ _ c.mark_count-n.ensures (omega arith) (omega arith) _ c.zeros.ensures

pub returns-then-licence_of-eq0 : goal.returns-then-licence_of-eq0
returns-then-licence_of-eq0 c =
    let given = c.args in
    let none : c.type_of-t.result ≡ 0 = grind arith in
    let licence : licence_in given.j.now given.k ≡ 0 = grind arith in
    good_remove given.j.now given.k _ _ _ refl c.type_of-t.ensures c.marks_at-at.ensures (told_remove _ _ c.in-Some-Remove.ensures c.in-Some-Remove.field-0-is) none licence _ refl _ c.zeros-then-licence_of-eq0.ensures

pub returns-else-licence_of-eq0 : goal.returns-else-licence_of-eq0
returns-else-licence_of-eq0 c = rw c.if-licence_of-eq0.false (go (ℕ_discrete c.type_of-t.result 0))
  where
    go : Dec (c.type_of-t.result ≡ 0) → EntryGood c.args.j.now c.args.k false
    go (no f) = good_type c.args.j.now c.args.k _ _ _ refl c.type_of-t.ensures c.marks_at-at.ensures (told_remove _ _ c.in-Some-Remove.ensures c.in-Some-Remove.field-0-is) f
    go (yes z) =
        good_licence c.args.j.now c.args.k _ _ _ refl c.type_of-t.ensures c.marks_at-at.ensures (told_remove _ _ c.in-Some-Remove.ensures c.in-Some-Remove.field-0-is)
        (licence_in c.args.j.now c.args.k) refl
        (λ l. grind arith)

pub returns-in-None : goal.returns-in-None
returns-in-None c =
    good_other c.args.j.now c.args.k _ _ _ refl c.type_of-t.ensures c.marks_at-at.ensures c.in-None.ensures.0 c.in-None.ensures.1
