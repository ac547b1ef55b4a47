-- The record of a piece as a block of 1,024 bytes, and what any byte string is read as. Assumes nothing.
use Rattle.std.specs.Prelude.{ℕ, ◌-◌, ◌*◌, ◌/◌, ◌%◌, Bool, cond, ◌&&◌, List, ◌∷◌, ◌++◌, length, take, drop, replicate, Ok, Err, Result, ◌==◌, nat_le, slice_index}
use Rattle.std.specs.List.{list_all}
use Rattle.store.specs.declared.flaw.Flaw.{Flaw}
use Rattle.store.specs.declared.flaw.Flaw.TheVariants.{Size, Count, Rest}
use Rattle.store.specs.declared.flaw.Unfit.{Unfit}
use Rattle.store.specs.declared.flaw.Unfit.TheVariants.{Block, Path}
use Rattle.store.specs.declared.records.Record.{Record}
use Rattle.wire.specs.Bytes.{number_of, bytes_of}

-- what a record says: the piece's number, its digest, and the bytes of the digests in its path
pub record Recorded : Type 0 where
  pub piece : ℕ
  pub digest : List ℕ
  pub path : List ℕ

abbrev pub said : Record → Recorded
said r = record { piece = r.piece; digest = r.digest; path = r.path.now }

-- how many digests of 32 bytes a path has
abbrev pub digests : List ℕ → ℕ
digests path = length path / 32

-- is it a whole number of digests, at most 16
abbrev pub is_path : List ℕ → Bool
is_path path = length path % 32 == 0 && nat_le (digests path) 16

-- a record: the number, the digest, the count of digests in the path, the path, and zeros up to 1,024 bytes
abbrev pub record_bytes : Recorded → List ℕ
record_bytes r = bytes_of 4 r.piece ++ (r.digest ++ (digests r.path ∷ (r.path ++ replicate (987 - length r.path) 0)))

-- is it written: the block has 1,024 bytes, and the path can be
abbrev pub fits : Recorded → List ℕ → Bool
fits r block = length block == 1024 && is_path r.path

-- why it isn't written, and first of the block
abbrev pub refusal : List ℕ → Unfit
refusal block = cond (length block == 1024) Path Block

-- what the block is then: the record, or as it was
abbrev pub written : Recorded → List ℕ → List ℕ
written r block = cond (fits r block) (record_bytes r) block

-- is each byte 0
abbrev pub all_zero : List ℕ → Bool
all_zero bs = list_all (λ b. b == 0) bs

-- what is read of the fields of a block: first the count is looked at, then what follows the path
abbrev pub record_of : (piece : ℕ) (digest : List ℕ) (count : ℕ) (rest : List ℕ) → Result Recorded Flaw
record_of piece digest count rest =
    cond (nat_le count 16) (cond (all_zero (drop (32 * count) rest)) (Ok (record { piece = piece; digest = digest; path = take (32 * count) rest })) (Err Rest)) (Err Count)

-- what is read of any byte string
abbrev pub read_record : List ℕ → Result Recorded Flaw
read_record bs = cond (length bs == 1024) (record_of (number_of (take 4 bs)) (take 32 (drop 4 bs)) (slice_index bs 36) (drop 37 bs)) (Err Size)
