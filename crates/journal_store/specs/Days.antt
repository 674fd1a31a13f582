-- The map on any day: "each accepted edit with its day number, 0 to 65,535". The days are told by the list of dated edits since the journal
-- began; no definition here knows of a journal's words.
use Rattle.std.specs.Prelude.{◌≡◌, Bool, cond, not, ◌||◌, List, [], ◌∷◌, ◌++◌, map, ℕ, suc, ◌+◌, ◌≤◌, eqb, leb, ltb, length}
use Rattle.shapes.specs.Shapes.{shape}
use Rattle.map.specs.Cells.{Map}
use Rattle.map.specs.Answers.{Answer, ◌when◌, answer}
use Rattle.map.specs.History.{Edit, Insert, Remove, edit_answer, changed, history}

-- "its day number, 0 to 65,535"
abbrev pub most_day : ℕ
most_day = 65535

-- "a year of transmit history": so many days at least stay behind the last fold
abbrev pub kept_days : ℕ
kept_days = 366

-- an edit with its day
pub record Dated : Type 0 where
  pub day : ℕ
  pub edit : Edit

-- the edit of a day
abbrev pub dated : ℕ → Edit → Dated
dated day e = record { day = day; edit = e }

-- the edits before a day, and those from it on, each in their order
unfoldable pub before : ℕ → List Dated → List Dated
before f [] = []
before f (e ∷ es) = cond (ltb e.day f) (e ∷ before f es) (before f es)

unfoldable pub since : ℕ → List Dated → List Dated
since f [] = []
since f (e ∷ es) = cond (ltb e.day f) (since f es) (e ∷ since f es)

-- "all edits of that day and earlier ones"
abbrev pub up_to : ℕ → List Dated → List Dated
up_to day es = before (suc day) es

-- the map that they leave
unfoldable pub map_after : Map → List Dated → Map
map_after m es = history m (map (λ (e : Dated). e.edit) es)

-- "a mesh whose answers equal those after all edits of that day and earlier ones"
unfoldable pub map_on : Map → List Dated → ℕ → Map
map_on m es day = map_after m (up_to day es)

-- the day of the last edit; of none 0
unfoldable pub last_or : ℕ → List Dated → ℕ
last_or d [] = d
last_or d (e ∷ es) = last_or e.day es

unfoldable pub last_day : List Dated → ℕ
last_day es = last_or 0 es

-- an edit was ever entered: 1 or 0
unfoldable pub ever_of : List Dated → ℕ
ever_of [] = 0
ever_of (e ∷ es) = 1

-- no edit is of a day before d, and none of a day before the one in front of it
pub data Ascends : ℕ → List Dated → Type 0 where
  none : {d : ℕ} → Ascends d []
  next : {d : ℕ} {e : Dated} {es : List Dated} → d ≤ e.day → Ascends e.day es → Ascends d (e ∷ es)

-- an insert has as many marks as its type says: what an accepted edit has, and an entry has room for
abbrev pub Fits : Edit → Type 0
Fits (Insert c x) = length x.marks ≡ (shape x.code).marks
Fits (Remove c) = 0 ≤ 0

pub data AllFit : List Dated → Type 0 where
  none : AllFit []
  next : {e : Dated} {es : List Dated} → Fits e.edit → AllFit es → AllFit (e ∷ es)

-- each edit is accepted at its turn
pub data Accepted : Map → List Dated → Type 0 where
  none : {m : Map} → Accepted m []
  next : {m : Map} {e : Dated} {es : List Dated} → (edit_answer m e.edit).refusal ≡ 0 → Accepted (changed m e.edit) es → Accepted m (e ∷ es)

-- the last fold is kept as its day + 1, 0 for none; a day is before it
unfoldable pub before_fold : ℕ → ℕ → Bool
before_fold fold day = ltb (day + 1) fold

-- "a new journal 2 if it has under 16 words or the third memory is below the room"
unfoldable pub begin_answer : ℕ → ℕ → ℕ → Answer
begin_answer room journalWords startWords = answer ((2 when ltb journalWords 16 || ltb startWords room) ∷ []) []

-- "entry 20 for a day before the last, then the mesh's own, then 23 if the journal is full"; 1 for a day above 65,535. `m` is the map when
-- the journal began, `past` the edits since, and `places` how many fit
unfoldable pub enter_answer : Map → List Dated → ℕ → ℕ → Dated → Answer
enter_answer m past fold places e =
    let own = (edit_answer (map_after m past) e.edit).refusal in
    answer
    ((1 when ltb most_day e.day)
    ∷ (20 when ltb e.day (last_day past))
    ∷ (own when not (eqb own 0))
    ∷ (23 when leb places (length (since fold past)))
    ∷ [])
    []

-- the edits after a call: "each accepted edit with its day number"
unfoldable pub entered : Map → List Dated → ℕ → ℕ → Dated → List Dated
entered m past fold places e = cond (eqb (enter_answer m past fold places e).refusal 0) (past ++ (e ∷ [])) past

-- "query 21 for a day before the last fold, then 2"
unfoldable pub on_answer : ℕ → ℕ → ℕ → ℕ → Answer
on_answer fold day room words = answer ((21 when before_fold fold day) ∷ (2 when ltb words room) ∷ []) []

-- "it is allowed only when F is not before the earlier fold and F + 366 is not after the last day"; "fold 22 when not allowed or when no edit
-- was ever entered"
unfoldable pub not_allowed : ℕ → ℕ → ℕ → ℕ → Bool
not_allowed ever fold last day = eqb ever 0 || (before_fold fold day || ltb last (day + kept_days))

unfoldable pub fold_answer : List Dated → ℕ → ℕ → Answer
fold_answer past fold day = answer ((22 when not_allowed (ever_of past) fold (last_day past) day) ∷ []) []

-- the last fold after a call
unfoldable pub fold_after : List Dated → ℕ → ℕ → ℕ
fold_after past fold day = cond (eqb (fold_answer past fold day).refusal 0) (suc day) fold
