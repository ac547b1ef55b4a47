-- Whoever asks one who lets it for something that it lacks has it when it comes, and doesn't shut its sender out.
use Rattle.std.proofs.Common.{◌≡◌, ℕ, get_or, sym, ap, ◌∙◌}
use Rattle.swarm.specs.Tree.{way}
use Rattle.swarm.specs.Turns.{is_in}
use Rattle.swarm.specs.Swarm.{Rules}
use Rattle.swarm.specs.Code.{Code, GivesOne}

-- where the same are remembered, the same are shut out
shut_by_shuts : (r : Rules) (q : ℕ) (State : Type 0) (c : Code r q State) (s t : State) (p : ℕ) → c.shuts t ≡ c.shuts s → c.shut t p ≡ c.shut s p
shut_by_shuts r q State c s t p e = c.shut_is t p ∙ ap (is_in p) e ∙ sym (c.shut_is s p)

pub gives_one : (r : Rules) (q : ℕ) (State : Type 0) (c : Code r q State) → GivesOne r q State c
gives_one r q State c p told s m d writes near small told_of lacks heard fit =
    let x = c.asks p told s in
    let lacking = c.asks_lacking p told s m small told_of lacks in
    let asked = c.ask_so p x s near lacking.0 in
    let t = c.ask p x s in
    let heard' = shut_by_shuts r q State c s t p asked.3 ∙ heard in
    let come = c.comes_so p x (get_or r.file x d) (way x r.file) t (asked.5 ∙ writes) heard' asked.0 fit in
    (x, lacking.0, lacking.1, lacking.2, come.0, shut_by_shuts r q State c t (c.comes p x (get_or r.file x d) (way x r.file) t) p come.2 ∙ heard')
