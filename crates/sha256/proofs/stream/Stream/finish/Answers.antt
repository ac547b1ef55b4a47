use Rattle.std.proofs.Common.{ℕ, ◌*◌, ◌/◌, ◌^◌, ◌++◌, ap, ◌∙◌, arith}
use Rattle.sha256.specs.Sha256.{word_bytes}
use Rattle.sha256.proofs.Endings.{ended, bits_are, zeros_are}
use Rattle.sha256.proofs.stream.Stream.finish.Goals as goal

pub returns : goal.returns
returns c m t =
    let t1 = c.absorb.ensures.taken m t in
    let t2 = c.absorb-2.ensures.taken _ t1 in
    let t3 = c.absorb-padded.ensures.taken _ t2 in
    let zeros = zeros_are _ _ (omega (arith, t.counted)) (omega arith) in
    let bits = c.to_be_bytes-bits.ensures ∙ bits_are (8 * c.args.self.count) ∙ ap (λ (n : ℕ). word_bytes (8 * n / 2 ^ 32) ++ word_bytes (8 * n)) t.counted in
    c.value_bytes.ensures ∙ ended m _ _ zeros bits t3
