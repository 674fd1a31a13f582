-- What opened memory is, and that well-formed memory opens.
use mathlib.Core.Path.{◌≡◌, refl, sym}
use mathlib.Core.Bool.{Bool, true, false, cond}
use mathlib.Core.List.{List}
use Prim.Native.Nat.{ℕ}
use native.Mathlib.Omega.{arith}
use borrow.Author.Tests.{le-leb, eq-eqb}
use lib.ListN.{length}
use Rattle.numbers.specs.declared.Caps.{Caps}
use Rattle.numbers.specs.Sizes.{most_capacity}
use Rattle.map.specs.declared.Refusal.TheVariants.{NotMesh}
use Rattle.std.specs.Prelude.{Ok, Err}
use Rattle.store.specs.Layout.{room, magic}
use Rattle.store.specs.Fields.{Magic, MarkCap, CellCap, Edition}
use Rattle.store.specs.Slots.{InHead, address, read}
use Rattle.store.specs.Open.{head_in, caps_in, is_mesh, opened}
use Rattle.map.specs.Cells.{Map}
use Rattle.picture.specs.Picture.{word_of, head_word, Wf}

module _ (w : List ℕ) where
  -- opened or not
  pub nothing_opened : (Err NotMesh) ≡ opened w → is_mesh w ≡ false
  unfolding opened
  nothing_opened e = go (is_mesh w) e
    where
      go : (b : Bool) → (Err NotMesh) ≡ cond b (Ok (caps_in w)) (Err NotMesh) → b ≡ false
      go true e = absurd (let z : ◌≡◌ {A = ℕ} 0 1 = cc in omega arith)
      go false e = refl

  pub mesh_opened : (caps : Caps) → Ok caps ≡ opened w → (is_mesh w ≡ true) × (caps ≡ caps_in w)
  unfolding opened
  mesh_opened caps e = go (is_mesh w) e
    where
      go : (b : Bool) → Ok caps ≡ cond b (Ok (caps_in w)) (Err NotMesh) → (b ≡ true) × (caps ≡ caps_in w)
      go true e = (refl, cc)
      go false e = absurd (let z : ◌≡◌ {A = ℕ} 0 1 = cc in omega arith)

  module _ (m : Map) (wf : Wf w m) where
    -- the head of well-formed memory
    head_magic : head_in w Magic ≡ magic
    unfolding head_in read address word_of head_word
    head_magic = wf.picture.words (InHead Magic) (omega arith)

    pub head_marks : head_in w MarkCap ≡ m.caps.marks
    unfolding head_in read address word_of head_word
    head_marks = wf.picture.words (InHead MarkCap) (omega arith)

    pub head_cells : head_in w CellCap ≡ m.caps.cells
    unfolding head_in read address word_of head_word
    head_cells = wf.picture.words (InHead CellCap) (omega arith)

    pub head_edition : head_in w Edition ≡ m.caps.edition
    unfolding head_in read address word_of head_word
    head_edition = wf.picture.words (InHead Edition) (omega arith)

    pub wf_mesh : is_mesh w ≡ true
    unfolding is_mesh room
    wf_mesh =
        rw (
          le-leb 16 (length w) (omega (arith, wf.picture.fits)),
          eq-eqb (head_in w Magic) magic head_magic,
          head_marks,
          head_cells,
          head_edition,
          wf.picture.edition,
          le-leb m.caps.marks most_capacity wf.picture.marks,
          le-leb m.caps.cells most_capacity wf.picture.cells,
          le-leb (room m.caps.marks m.caps.cells) (length w) wf.picture.fits,
        )

    pub wf_caps : (caps : Caps) → Ok caps ≡ opened w → m.caps ≡ caps
    unfolding caps_in
    wf_caps caps e = rw (← head_marks, ← head_cells, ← head_edition) (sym (mesh_opened caps e).1)
