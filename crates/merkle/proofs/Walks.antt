-- A walk from the root down to a place takes the digests of its path, one at each half, and ends with all of them.
use Rattle.std.proofs.Common.{◌≡◌, ℕ, ◌-◌, ◌<◌, ◌≤◌, ◌⊎◌, List, [], ◌∷◌, ◌++◌, length, take, drop, ap, inl, inr, append-nil, arith, length-append, length-take}
use lib.Seq.{append_snoc}
use Rattle.std.proofs.lemmas.Bool.{cases_lt}
use Rattle.swarm.specs.Tree.{cut}
use Rattle.swarm.proofs.Cuts.{cut_between}
use Rattle.bytetree.specs.ByteTree.{root, path}
use Rattle.bytetree.proofs.Halves.{length_front, length_back, path_one, path_in_front, path_in_back}
use Rattle.bytetree.proofs.Trees.{path-short}
use Rattle.merkle.specs.Paths.{steps}
use Rattle.merkle.specs.declared.path.Path.{Path}

-- what was found so far, and then the path of a place in the row at hand, are the whole path
pub record Walk (found : Path) (place : ℕ) (row whole : List (List ℕ)) : Type 0 where
  pub leads : steps found ++ path place row ≡ whole
  pub short : length whole ≤ 16
  pub there : place < length row
  pub few : length row ≤ 65536

-- A walk begins with nothing found.
pub walk_begins : (found : Path) (m : ℕ) (ds : List (List ℕ)) → steps found ≡ [] → m < length ds → length ds ≤ 65536 → Walk found m ds (path m ds)
walk_begins found m ds e t f = record { leads = rw e; short = path-short 16 m ds f; there = t; few = f }

some_path : (m : ℕ) (ds : List (List ℕ)) → 1 < length ds → 0 < length (path m ds)
some_path m ds two = go (cases_lt m (cut (length ds)))
  where
    go : (m < cut (length ds)) ⊎ (cut (length ds) ≤ m) → 0 < length (path m ds)
    go (inl h) = rw (path_in_front m ds two h) (omega arith)
    go (inr h) = rw (path_in_back m ds two h) (omega arith)

-- There is room for one digest more, as long as the row has two or more.
pub walk_room : {found : Path} {place : ℕ} {row whole : List (List ℕ)} → Walk found place row whole → 1 < length row → found.count < 16
walk_room {found} {place} {row} w two =
    omega (arith, found.sized, found.few, length-take found.count found.digests, w.short, simp length-append at (ap length w.leads), some_path place row two)

-- A walk goes on in the front of the row, if the place is there.
pub walk_front : {found next : Path} {place k : ℕ} {row left right whole : List (List ℕ)} → Walk found place row whole → 1 < length row → left ≡ take (cut (length row)) row → right ≡ drop (cut (length row)) row →
    place < k → k ≡ length left → steps next ≡ steps found ++ (root right ∷ []) → Walk next place left whole
walk_front {found} {next} {place} {k} {row} {left} {right} w two f b h e n =
    let c = cut_between (length row) two in
    let l : length left ≡ cut (length row) = cc (length_front row two) in
    record {
      leads = cc (w.leads, path_in_front place row two (omega arith), append_snoc (steps found) (root right) (path place left));
      short = w.short;
      there = omega arith;
      few = omega (arith, w.few);
    }

-- Otherwise it goes on in the back.
pub walk_back : {found next : Path} {place k : ℕ} {row left right whole : List (List ℕ)} → Walk found place row whole → 1 < length row → left ≡ take (cut (length row)) row → right ≡ drop (cut (length row)) row →
    k ≤ place → k ≡ length left → steps next ≡ steps found ++ (root left ∷ []) → Walk next (place - k) right whole
walk_back {found} {next} {place} {k} {row} {left} {right} w two f b h e n =
    let c = cut_between (length row) two in
    let l : length left ≡ cut (length row) = cc (length_front row two) in
    let r : length right ≡ length row - cut (length row) = cc (length_back row) in
    record {
      leads = cc (w.leads, path_in_back place row two (omega arith), append_snoc (steps found) (root left) (path (place - k) right));
      short = w.short;
      there = omega (arith, w.there);
      few = omega (arith, w.few);
    }

no_path : (m : ℕ) (ds : List (List ℕ)) → length ds ≡ 1 → path m ds ≡ []
no_path m [] h = absurd (omega arith)
no_path m (d ∷ []) h = path_one m d
no_path m (d ∷ (e ∷ ds)) h = absurd (omega arith)

-- At a row of one all is found.
pub walk_ends : {found : Path} {place : ℕ} {row whole : List (List ℕ)} → Walk found place row whole → length row ≤ 1 → steps found ≡ whole
walk_ends {found} {place} {row} w h = cc (w.leads, no_path place row (omega (arith, w.there)), append-nil (steps found))
