-- Memory that is a mesh with a journal of its capacities, and memory that is not.
use mathlib.Core.Path.{◌≡◌, refl, sym, ap, ◌∙◌, subst}
use mathlib.Core.Bool.{Bool, true, false, cond, ◌&&◌, and-false}
use mathlib.Core.List.{List}
use Prim.Native.Nat.{ℕ, ◌+◌, ◌<◌, ◌≤◌}
use native.Mathlib.Omega.{arith}
use Rattle.numbers.specs.Room.{room}
use Rattle.numbers.specs.declared.Caps.{Caps}
use Rattle.store.specs.Open.{room_in, caps_in, is_mesh, opened}
use Rattle.map.specs.declared.Refusal.TheVariants.{NotMesh}
use Rattle.std.specs.Prelude.{Ok, Err}
use Rattle.map.specs.Cells.{Map}
use Rattle.picture.specs.Picture.{Wf}
use Rattle.checks.proofs.Opens.{nothing_opened, mesh_opened, head_marks, head_cells, head_edition, wf_mesh, wf_caps}
use Rattle.laws.proofs.Edits.{history_caps}
use Rattle.journal_store.specs.Days.{Dated, map_after, since}
use Rattle.journal_store.specs.Journals.{is_journal, Pictured}
use Rattle.journal_store.proofs.Reading.{pictured_journal}
use Rattle.journal.specs.Kept.{both}

pub after_caps : (m : Map) (es : List Dated) → (map_after m es).caps ≡ m.caps
unfolding map_after
after_caps m es = history_caps m _

module _ (w j : List ℕ) where
  pub none_both : (Err NotMesh) ≡ opened w → both w j ≡ false
  unfolding both
  none_both e = rw (nothing_opened w e)

  module _ (caps : Caps) (opens : Ok caps ≡ opened w) where
    pub opened_both : both w j ≡ is_journal j caps
    unfolding both
    opened_both = rw ((mesh_opened w caps opens).0, ← (mesh_opened w caps opens).1)

    pub opened_room : room caps.marks caps.cells ≡ room_in w
    unfolding caps_in
    opened_room = ap (λ (c : Caps). room c.marks c.cells) (mesh_opened w caps opens).1

pub wf_head : (w : List ℕ) (m : Map) → Wf w m → caps_in w ≡ m.caps
unfolding caps_in
wf_head w m wf = rw (head_marks w m wf, head_cells w m wf, head_edition w m wf)

-- a mesh and a journal that were kept
pub kept_both : (w j : List ℕ) (m : Map) (es : List Dated) (last ever fold : ℕ) → Wf w m → Pictured j m.caps es last ever fold → both w j ≡ true
unfolding both caps_in
kept_both w j m es last ever fold wf p =
    rw (wf_mesh w m wf, head_marks w m wf, head_cells w m wf, head_edition w m wf) (pictured_journal j m.caps es last ever fold p)
