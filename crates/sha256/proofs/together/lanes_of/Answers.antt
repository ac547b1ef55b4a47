use Rattle.std.proofs.Common.{ℕ, List, [], get_or, ◌∙◌, rules}
use Rattle.sha256.proofs.Arrays.{four_places}
use Rattle.sha256.proofs.SideLaws.{lanes_are}
use Rattle.sha256.proofs.together.lanes_of.Goals as goal

pub returns : goal.returns
returns c =
    let value : ℕ → List ℕ = λ k. get_or c.args.values k [] in
    lanes_are (value 0) (value 1) (value 2) (value 3) (record { a = c.at.result; b = c.at-2.result; c = c.at-3.result; d = c.at-4.result; e = c.at-5.result; f = c.at-6.result; g = c.at-7.result; h = c.at-8.result })
    (search rules) (search rules) (search rules) (search rules)
    (search rules) (search rules) (search rules) (search rules) (search rules) (search rules) (search rules) (search rules)
    ∙ four_places c.args.values [] [] [] [] (search rules)
