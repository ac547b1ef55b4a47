-- What a path leads to, compared with the root, decides whether a piece of the right length and its path lead there.
use Rattle.std.proofs.Common.{◌≡◌, ℕ, ◌/◌, ◌%◌, ◌<◌, Bool, List, length, Some, None, Option, eqb, sym, ap, ◌∙◌, true≢false, arith}
use Rattle.std.specs.Cmp.Lexicographic.{pointwise}
use Rattle.std.specs.Option.{option_eq}
use Rattle.std.specs.Simd.{first_chunks}
use Rattle.std.proofs.lemmas.Bool.Decides.{Decides-eqb}
use Rattle.std.proofs.lemmas.Slice.Eq.{slice_eq-Decides}
use Rattle.bytetree.specs.Pieces.{piece_count, piece_length}
use Rattle.bytetree.specs.ByteTree.{Leads, digests, folds, leaf}
use Rattle.merkle.specs.Decisions.{Decides}
use Rattle.merkle.proofs.Steps.{chunks_parts}

-- Whether something was found that is this.
pub found_it : (found : Option (List ℕ)) (top : List ℕ) (r : Bool) → r ≡ option_eq (pointwise eqb) found (Some top) → Decides r (found ≡ Some top)
found_it None top r e = ((λ t. absurd (true≢false (sym t ∙ e))), λ s. cc)
found_it (Some d) top r e = let same = slice_eq-Decides Decides-eqb d top r e in ((λ t. ap Some (same.0 t)), λ s. same.1 (cc))

-- The place is there, the piece has its length, and the path is whole digests.
pub leads_there : {len m n : ℕ} {top from piece way : List ℕ} {path : List (List ℕ)} {found : Option (List ℕ)} (r : Bool) → m < piece_count len → length piece ≡ piece_length len m → length way % 32 ≡ 0 →
    n ≡ piece_count len → from ≡ leaf piece → path ≡ first_chunks 32 (length way / 32) way → found ≡ folds n m from path → Decides r (found ≡ Some top) → Decides r (Leads len top m piece way)
leads_there {len} {m} {n} {top} {from} {piece} {way} {path} {found} r there sized whole count digest chunks leads same =
    let whole_path : path ≡ digests way = chunks ∙ chunks_parts 32 (length way / 32) way in (
      (λ t. let at = same.0 t in record { there = there; sized = sized; whole = omega arith; leads = cc }),
      λ l. same.1 (cc (l.leads)),
    )
