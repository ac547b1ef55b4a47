use Rattle.std.proofs.Common.{◌≡◌, ◌+◌, ◌-◌, ◌∙◌, ap, arith, get_or, of_calls}
use Rattle.std.proofs.lemmas.Str.{len_utf8_ascii}
use Rattle.program.proofs.Names.{after_last_is, both_cases}
use Rattle.program.proofs.paths.name_of.Goals as goal

pub returns : goal.returns
returns c =
    let path = c.args.path.now in
    both_cases c.rsplit_once.result _ _ _ _ _
    (λ h whole. ap (λ r. r.now) whole ∙ after_last_is 47 path 0 (omega arith) (omega arith) h (λ some. absurd (omega arith)))
    (λ x h called.
    let given : c.map_or.result ≡ x.1 = search (of_calls, called) in
    let next : h.1 ≡ h.0 + 1 = omega (arith, h.2.1.ends, len_utf8_ascii 47 (omega arith)) in
    let back : h.1 - 1 ≡ h.0 = omega arith in
    ap (λ r. r.now) given ∙ h.4 ∙ after_last_is 47 path h.1 (omega arith) (omega (arith, h.7)) h.2.0 (λ _. ap (λ i. get_or path i 0) back ∙ h.2.1.byte (omega arith)))
    c.rsplit_once.ensures.cases c.map_or.ensures
