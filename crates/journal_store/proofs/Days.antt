-- Laws of dated edits in the order of their days.
use mathlib.Core.Path.{◌≡◌, refl, ap, ◌∙◌, subst}
use mathlib.Core.List.{List, [], ◌∷◌, ◌++◌, map, map-append}
use Prim.Native.Nat.{ℕ, zero, suc, ◌<◌, ◌≤◌}
use native.Mathlib.Decide.{dec_lt}
use native.Mathlib.Omega.{arith}
use borrow.Author.Tests.{lt-ltb, le-ltb}
use lib.ListN.{length, get_or, take, drop}
use Rattle.map.specs.Cells.{Map}
use Rattle.map.specs.History.{Edit, Insert, Remove, edit_answer, edited, history}
use Rattle.laws.proofs.Edits.{edited_changed}
use Rattle.journal_store.specs.Days as D
use Rattle.journal_store.specs.Days.{Dated, before, since, up_to, map_after, map_on, last_or, last_day, ever_of, Ascends, Fits, AllFit}
use Rattle.journal_store.specs.Entries.{edit_words, words_at}

-- an edit that is earlier, and one that is not
module _ (f : ℕ) (e : Dated) (es : List Dated) where
  pub before_early : e.day < f → before f (e ∷ es) ≡ e ∷ before f es
  unfolding before
  before_early h = rw (lt-ltb e.day f h)

  pub before_late : f ≤ e.day → before f (e ∷ es) ≡ before f es
  unfolding before
  before_late h = rw (le-ltb e.day f h)

  pub since_early : e.day < f → since f (e ∷ es) ≡ since f es
  unfolding since
  since_early h = rw (lt-ltb e.day f h)

  pub since_late : f ≤ e.day → since f (e ∷ es) ≡ e ∷ since f es
  unfolding since
  since_late h = rw (le-ltb e.day f h)

pub ascends_weaken : {d : ℕ} {es : List Dated} (c : ℕ) → c ≤ d → Ascends d es → Ascends c es
ascends_weaken c h D.none = D.none
ascends_weaken c h (D.next {e = e} low rest) = D.next {d = c} {e = e} (omega arith) rest

-- where all are late, none is before
pub before_none : {d : ℕ} {es : List Dated} (f : ℕ) → f ≤ d → Ascends d es → before f es ≡ []
unfolding before
before_none f h D.none = refl
before_none f h (D.next {e = e} {es} low rest) = before_late f e es (omega arith) ∙ before_none f (omega arith) rest

pub since_all : {d : ℕ} {es : List Dated} (f : ℕ) → f ≤ d → Ascends d es → since f es ≡ es
unfolding since
since_all f h D.none = refl
since_all f h (D.next {e = e} {es} low rest) =
    since_late f e es (omega arith) ∙ ap (λ (l : List Dated). e ∷ l) (since_all f (omega arith) rest)

-- "Folding through day F moves the edits up to F into the starting map": those before an earlier day and, of the others, those before a later
-- one are those before the later
pub before_then : {d : ℕ} {es : List Dated} (f g : ℕ) → f ≤ g → Ascends d es → before f es ++ before g (since f es) ≡ before g es
unfolding before since
before_then f g h D.none = refl
before_then f g h (D.next {d} {e} {es} low rest) = go (before_then f g h rest) (dec_lt e.day f)
  where
    go : before f es ++ before g (since f es) ≡ before g es → Dec (e.day < f) → before f (e ∷ es) ++ before g (since f (e ∷ es)) ≡ before g (e ∷ es)
    go on (yes l) =
        rw (before_early f e es l, since_early f e es l, before_early g e es (omega arith)) (ap (λ (x : List Dated). e ∷ x) on)
    go on (no n) =
        let late : Ascends f (e ∷ es) = D.next {d = f} {e = e} (omega arith) rest in
        rw (before_none f (omega arith) late, since_all f (omega arith) late)

pub since_then : (f g : ℕ) → f ≤ g → (es : List Dated) → since g (since f es) ≡ since g es
unfolding since
since_then f g h [] = refl
since_then f g h (e ∷ es) = go (since_then f g h es) (dec_lt e.day f) (dec_lt e.day g)
  where
    go : since g (since f es) ≡ since g es → Dec (e.day < f) → Dec (e.day < g) → since g (since f (e ∷ es)) ≡ since g (e ∷ es)
    go on (yes l) k = rw (since_early f e es l, since_early g e es (omega arith)) on
    go on (no n) (yes l) = rw (since_late f e es (omega arith), since_early g e (since f es) l, since_early g e es l) on
    go on (no n) (no k) =
        rw (since_late f e es (omega arith), since_late g e (since f es) (omega arith), since_late g e es (omega arith))
        (ap (λ (x : List Dated). e ∷ x) on)

-- the edits from a day on ascend
pub ascends_since : {d : ℕ} {es : List Dated} (f : ℕ) → Ascends d es → Ascends d (since f es)
unfolding since
ascends_since f D.none = D.none
ascends_since f (D.next {d} {e} {es} low rest) = go (ascends_since f rest) (dec_lt e.day f)
  where
    go : Ascends e.day (since f es) → Dec (e.day < f) → Ascends d (since f (e ∷ es))
    go on (yes l) = rw (since_early f e es l) (ascends_weaken d low on)
    go on (no n) = rw (since_late f e es (omega arith)) (D.next {e = e} low on)

-- one more at the end
module _ (e : Dated) where
  pub before_end : (f : ℕ) (es : List Dated) → f ≤ e.day → before f (es ++ (e ∷ [])) ≡ before f es
  unfolding before
  before_end f [] h = before_late f e [] h
  before_end f (x ∷ es) h = go (before_end f es h) (dec_lt x.day f)
    where
      go : before f (es ++ (e ∷ [])) ≡ before f es → Dec (x.day < f) → before f (x ∷ (es ++ (e ∷ []))) ≡ before f (x ∷ es)
      go on (yes l) = rw (before_early f x (es ++ (e ∷ [])) l, before_early f x es l) (ap (λ (y : List Dated). x ∷ y) on)
      go on (no n) = rw (before_late f x (es ++ (e ∷ [])) (omega arith), before_late f x es (omega arith)) on

  pub since_end : (f : ℕ) (es : List Dated) → f ≤ e.day → since f (es ++ (e ∷ [])) ≡ since f es ++ (e ∷ [])
  unfolding since
  since_end f [] h = since_late f e [] h
  since_end f (x ∷ es) h = go (since_end f es h) (dec_lt x.day f)
    where
      go : since f (es ++ (e ∷ [])) ≡ since f es ++ (e ∷ []) → Dec (x.day < f) → since f (x ∷ (es ++ (e ∷ []))) ≡ since f (x ∷ es) ++ (e ∷ [])
      go on (yes l) = rw (since_early f x (es ++ (e ∷ [])) l, since_early f x es l) on
      go on (no n) = rw (since_late f x (es ++ (e ∷ [])) (omega arith), since_late f x es (omega arith)) (ap (λ (y : List Dated). x ∷ y) on)

  pub last_or_end : (d : ℕ) (es : List Dated) → last_or d (es ++ (e ∷ [])) ≡ e.day
  unfolding last_or
  last_or_end d [] = refl
  last_or_end d (x ∷ es) = last_or_end x.day es

  pub last_end : (es : List Dated) → last_day (es ++ (e ∷ [])) ≡ e.day
  unfolding last_day
  last_end es = last_or_end 0 es

  pub ever_end : (es : List Dated) → ever_of (es ++ (e ∷ [])) ≡ 1
  unfolding ever_of
  ever_end [] = refl
  ever_end (x ∷ es) = refl

  pub ascends_or_end : {d : ℕ} {es : List Dated} → Ascends d es → last_or d es ≤ e.day → Ascends d (es ++ (e ∷ []))
  unfolding last_or
  ascends_or_end D.none h = D.next h D.none
  ascends_or_end (D.next low rest) h = D.next low (ascends_or_end rest h)

  pub ascends_end : {es : List Dated} → Ascends 0 es → last_day es ≤ e.day → Ascends 0 (es ++ (e ∷ []))
  unfolding last_day
  ascends_end a h = ascends_or_end a h

  pub fit_end : {es : List Dated} → AllFit es → Fits e.edit → AllFit (es ++ (e ∷ []))
  fit_end D.none f = D.next f D.none
  fit_end (D.next x rest) f = D.next x (fit_end rest f)

  pub accepted_end : {m : Map} {es : List Dated} → D.Accepted m es → (edit_answer (map_after m es) e.edit).refusal ≡ 0 → D.Accepted m (es ++ (e ∷ []))
  unfolding map_after history edited
  accepted_end D.none h = D.next h D.none
  accepted_end {m} (D.next {e = y} {es} x rest) h =
      D.next x (accepted_end rest (subst (λ (k : Map). (edit_answer (history k (map (λ (z : Dated). z.edit) es)) e.edit).refusal ≡ 0) (edited_changed m y.edit x) h))

pub fit_since : {es : List Dated} (f : ℕ) → AllFit es → AllFit (since f es)
unfolding since
fit_since f D.none = D.none
fit_since f (D.next {e} {es} x rest) = go (fit_since f rest) (dec_lt e.day f)
  where
    go : AllFit (since f es) → Dec (e.day < f) → AllFit (since f (e ∷ es))
    go on (yes l) = rw (since_early f e es l) on
    go on (no n) = rw (since_late f e es (omega arith)) (D.next {e = e} x on)

-- no day is above the last
last_high : {d : ℕ} {es : List Dated} → Ascends d es → d ≤ last_or d es
unfolding last_or
last_high D.none = omega arith
last_high (D.next l r) = omega (arith, last_high r)

-- "a day after the last reads as the last"
before_or_all : {d : ℕ} {es : List Dated} (f : ℕ) → Ascends d es → last_or d es < f → before f es ≡ es
unfolding before last_or
before_or_all f D.none h = refl
before_or_all f (D.next {d} {e} {es} low rest) h =
    before_early f e es (omega (arith, last_high rest)) ∙ ap (λ (x : List Dated). e ∷ x) (before_or_all f rest h)

pub up_to_last : {es : List Dated} (day : ℕ) → Ascends 0 es → last_day es ≤ day → up_to day es ≡ es
unfolding last_day
up_to_last day a h = before_or_all (suc day) a (omega arith)

-- one history behind another
history_then : (m : Map) (a b : List Edit) → history m (a ++ b) ≡ history (history m a) b
unfolding history
history_then m [] b = refl
history_then m (e ∷ a) b = history_then (edited m e) a b

pub after_then : (m : Map) (a b : List Dated) → map_after m (a ++ b) ≡ map_after (map_after m a) b
unfolding map_after
after_then m a b = ap (history m) (map-append _ a b) ∙ history_then m _ _

-- the day of the entry at a place, by its words
abbrev pub day_at : List Dated → ℕ → ℕ
day_at es i = get_or (words_at es i) 0 0

pub first_day : (d : ℕ) (x : Edit) → get_or (edit_words d x) 0 0 ≡ d
unfolding edit_words
first_day d (Insert c x) = refl
first_day d (Remove c) = refl

-- the entries up to the first that is later than a day are those up to it, and the others those behind it
pub counted_split : {d : ℕ} {es : List Dated} (day k : ℕ) → Ascends d es → k ≤ length es → ((i : ℕ) → i < k → day_at es i ≤ day)
    → (k < length es → day < day_at es k) → (before (suc day) es ≡ take k es) × (since (suc day) es ≡ drop k es)
unfolding before since words_at
counted_split day zero D.none few early late = (refl, refl)
counted_split day (suc k) D.none few early late = absurd (omega arith)
counted_split day zero (D.next {d} {e} {es} low rest) few early late =
    let high : day < e.day = omega (arith, late (omega arith), first_day e.day e.edit) in
    let all : Ascends (suc day) (e ∷ es) = D.next {d = suc day} {e = e} (omega arith) rest in
    (before_none (suc day) (omega arith) all, since_all (suc day) (omega arith) all)
counted_split day (suc k) (D.next {d} {e} {es} low rest) few early late =
    let small : e.day ≤ day = omega (arith, early 0 (omega arith), first_day e.day e.edit) in
    let x = counted_split day k rest (omega arith) (λ i h. early (suc i) (omega arith)) (λ h. late (omega arith)) in
    (before_early (suc day) e es (omega arith) ∙ ap (λ (y : List Dated). e ∷ y) x.0, since_early (suc day) e es (omega arith) ∙ x.1)
