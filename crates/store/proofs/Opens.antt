-- What a head opens.
use mathlib.Core.Path.{◌≡◌}
use mathlib.Core.Bool.{true, false}
use mathlib.Core.List.{List}
use Prim.Native.Nat.{ℕ, ◌<◌, ◌≤◌}
use borrow.Author.Tests.{le-leb, lt-leb, eq-eqb, ne_eqb}
use lib.ListN.{length}
use Rattle.numbers.specs.Sizes.{most_capacity}
use Rattle.numbers.specs.Editions.{is_edition}
use Rattle.map.specs.declared.Refusal.TheVariants.{NotMesh}
use Rattle.std.specs.Prelude.{Ok, Err}
use Rattle.store.specs.Layout.{room, magic}
use Rattle.store.specs.Fields.{Magic, MarkCap, CellCap, Edition}
use Rattle.store.specs.Open.{head_in, caps_in, is_mesh, opened}

module _ (w : List ℕ) where
  pub open_short : length w < 16 → opened w ≡ (Err NotMesh)
  unfolding opened is_mesh
  open_short a = simp (lt-leb 16 (length w) a)

  module _ (a : 16 ≤ length w) where
    pub open_other : (head_in w Magic ≡ magic → ⊥) → opened w ≡ (Err NotMesh)
    unfolding opened is_mesh
    open_other b = simp (le-leb 16 (length w) a, ne_eqb (head_in w Magic) magic b)

    module _ (b : head_in w Magic ≡ magic) where
      pub open_marks : most_capacity < head_in w MarkCap → opened w ≡ (Err NotMesh)
      unfolding opened is_mesh
      open_marks c = simp (le-leb 16 (length w) a, eq-eqb (head_in w Magic) magic b, lt-leb (head_in w MarkCap) most_capacity c)

      module _ (c : head_in w MarkCap ≤ most_capacity) where
        pub open_cells : most_capacity < head_in w CellCap → opened w ≡ (Err NotMesh)
        unfolding opened is_mesh
        open_cells d =
            simp (
              le-leb 16 (length w) a,
              eq-eqb (head_in w Magic) magic b,
              le-leb (head_in w MarkCap) most_capacity c,
              lt-leb (head_in w CellCap) most_capacity d,
            )

        module _ (d : head_in w CellCap ≤ most_capacity) where
          pub open_edition : is_edition (head_in w Edition) ≡ false → opened w ≡ (Err NotMesh)
          unfolding opened is_mesh
          open_edition e =
              simp (
                le-leb 16 (length w) a,
                eq-eqb (head_in w Magic) magic b,
                le-leb (head_in w MarkCap) most_capacity c,
                le-leb (head_in w CellCap) most_capacity d,
                e,
              )

          module _ (i : is_edition (head_in w Edition) ≡ true) where
            pub open_room : length w < room (head_in w MarkCap) (head_in w CellCap) → opened w ≡ (Err NotMesh)
            unfolding opened is_mesh
            open_room e =
                simp (
                  le-leb 16 (length w) a,
                  eq-eqb (head_in w Magic) magic b,
                  le-leb (head_in w MarkCap) most_capacity c,
                  le-leb (head_in w CellCap) most_capacity d,
                  i,
                  lt-leb (room (head_in w MarkCap) (head_in w CellCap)) (length w) e,
                )

            pub open_mesh : room (head_in w MarkCap) (head_in w CellCap) ≤ length w → opened w ≡ Ok (caps_in w)
            unfolding opened is_mesh
            open_mesh e =
                simp (
                  le-leb 16 (length w) a,
                  eq-eqb (head_in w Magic) magic b,
                  le-leb (head_in w MarkCap) most_capacity c,
                  le-leb (head_in w CellCap) most_capacity d,
                  i,
                  le-leb (room (head_in w MarkCap) (head_in w CellCap)) (length w) e,
                )
