use Rattle.std.proofs.Common.{◌≡◌, ◌∷◌, [], subst, rules, ap, ◌∙◌}
use Rattle.std.specs.List.{AllZip}
use Rattle.sha256.specs.Sides.{Behind, Keeps, fewest}
use Rattle.sha256.proofs.Arrays.{four_places}
use Rattle.sha256.proofs.together.side_by_side.Goals as goal

pub returns : goal.returns
returns c =
    let all = four_places c.args.sides c.index-sides-0.result c.index-sides-1.result c.index-sides-2.result c.index-sides-3.result (search rules) in
    let news = c.behind.result ∷ c.behind-2.result ∷ c.behind-3.result ∷ c.behind-4.result ∷ [] in
    let count : c.min-count.result ≡ fewest c.args.sides = (search rules) ∙ ap fewest all in
    record {
      keeps = subst (λ sides. AllZip Keeps sides news) all (c.behind.ensures.keeps, (c.behind-2.ensures.keeps, (c.behind-3.ensures.keeps, (c.behind-4.ensures.keeps, tt))));
      all = subst (λ n. AllZip (Behind n) c.args.sides news) count
          (subst (λ sides. AllZip (Behind c.min-count.result) sides news) all (c.behind.ensures.taken, (c.behind-2.ensures.taken, (c.behind-3.ensures.taken, (c.behind-4.ensures.taken, tt)))));
    }
