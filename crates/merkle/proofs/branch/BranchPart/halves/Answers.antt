use Rattle.std.proofs.Common.{◌≡◌, ℕ, ◌-◌, ◌<◌, ◌≤◌, List, length, take, drop, arith}
use native.Mathlib.Nat.{sub-zero}
use Rattle.std.proofs.lemmas.List.{take_rest}
use Rattle.swarm.specs.Tree.{cut}
use Rattle.merkle.specs.Nodes.{inner}
use Rattle.merkle.proofs.Inner.{halved, inner_front, inner_back, inner_long}
use Rattle.merkle.proofs.branch.BranchPart.halves.Goals as goal

-- A row of two or more, its halves, where they meet, and its nodes.
module _ (row : List (List ℕ)) {left right above : List (List ℕ)} {k : ℕ} (a : above ≡ inner row) (two : 1 < length row) (l : left ≡ take (cut (length row)) row) (r : right ≡ drop (cut (length row)) row) (e : k ≡ length left) where
  within : (0 < k) × (k ≤ length above)
  within = let h = halved row two l r in omega (arith, inner_long row a (omega arith))

  nodes_front : take (k - 1 - 0) above ≡ inner left
  nodes_front = let h = halved row two l r in cc (sub-zero (k - 1), inner_front row two, h.0)

  nodes_back : take (length above - k) (drop k above) ≡ inner right
  nodes_back = let h = halved row two l r in cc (take_rest above k, inner_back row two, h.0)

pub slice_bounds-before-end : goal.slice_bounds-before-end
slice_bounds-before-end c = let e = c.in_ok-left.ensures in omega (arith, within c.args.self.row.leaves.now c.args.self.above e.0 e.1 e.2 c.len-at.ensures)

pub slice_bounds-after-count : goal.slice_bounds-after-count
slice_bounds-after-count c = let e = c.in_ok-left.ensures in omega (arith, within c.args.self.row.leaves.now c.args.self.above e.0 e.1 e.2 c.len-at.ensures)

pub slice_bounds-after-start : goal.slice_bounds-after-start
slice_bounds-after-start c = let e = c.in_ok-left.ensures in omega (arith, within c.args.self.row.leaves.now c.args.self.above e.0 e.1 e.2 c.len-at.ensures)

pub invariant_of-result : goal.invariant_of-result
invariant_of-result c = let e = c.in_ok-left.ensures in record { above = nodes_front c.args.self.row.leaves.now c.args.self.above e.0 e.1 e.2 c.len-at.ensures }

pub invariant_of-result-2 : goal.invariant_of-result-2
invariant_of-result-2 c = let e = c.in_ok-left.ensures in record { above = nodes_back c.args.self.row.leaves.now c.args.self.above e.0 e.1 e.2 c.len-at.ensures }
