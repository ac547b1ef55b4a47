use Rattle.std.proofs.Common.{[], rules}
use Rattle.sha256.proofs.hashing.digest_after.Goals as goal

pub returns-in_err-update-2 : goal.returns-in_err-update-2
returns-in_err-update-2 c =
    let begun = c.in_ok-update.ensures.taken [] c.new.ensures in
    let fits = rw begun.counted at c.in_err-update-2.ensures.fits in
    search (rules, fits)

pub returns : goal.returns
returns c =
    let begun = c.in_ok-update.ensures.taken [] c.new.ensures in
    let all = c.in_ok-update-2.ensures.taken _ begun in
    record { fits = rw begun.counted at c.in_ok-update-2.ensures.fits; value = c.finish.ensures _ all }
