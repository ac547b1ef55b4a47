-- Each way out is one of the ways in which a piece and its path can lead to the root or not.
use Rattle.std.proofs.Common.{◌≡◌, length, sym, ◌∙◌, arith}
use Rattle.std.proofs.lemmas.Bool.{eqb-true}
use Rattle.bytetree.proofs.Collisions.{collision_or_right}
use Rattle.bytetree.proofs.Digests.{own_leads}
use Rattle.bytetree.proofs.Trees.{image_of_terms}
use Rattle.merkle.proofs.Checks.{found_it, leads_there}
use Rattle.merkle.proofs.checking.check.Goals as goal

pub returns-in_default-clause-right : goal.returns-in_default-clause-right
returns-in_default-clause-right c = collision_or_right

pub returns-in_default-clause-own : goal.returns-in_default-clause-own
returns-in_default-clause-own c = own_leads

pub returns-in_default-clause-image : goal.returns-in_default-clause-image
returns-in_default-clause-image c = image_of_terms

pub returns-then-piece-length-clause-right : goal.returns-then-piece-length-clause-right
returns-then-piece-length-clause-right c = collision_or_right

pub returns-then-piece-length-clause-own : goal.returns-then-piece-length-clause-own
returns-then-piece-length-clause-own c = own_leads

pub returns-then-piece-length-clause-image : goal.returns-then-piece-length-clause-image
returns-then-piece-length-clause-image c = image_of_terms

pub returns-clause-right : goal.returns-clause-right
returns-clause-right c = collision_or_right

pub returns-clause-own : goal.returns-clause-own
returns-clause-own c = own_leads

pub returns-clause-image : goal.returns-clause-image
returns-clause-image c = image_of_terms

pub returns-clause-exact : goal.returns-clause-exact
returns-clause-exact c =
    let empty : length c.as_chunks.result.1.now ≡ 0 = eqb-true _ _ (sym c.if-not-is_empty.ensures) in
    let same = rw c.root.ensures at (found_it c.folded.result c.root.result c.eq.result c.eq.ensures) in
    leads_there c.eq.result c.in-Some.ensures.0 (c.if-piece-length.false ∙ c.in-Some.ensures.1) (omega (arith, c.as_chunks.ensures.back_len)) c.pieces.ensures.counted c.leaf_of.ensures c.as_chunks.ensures.front c.folded.ensures same
