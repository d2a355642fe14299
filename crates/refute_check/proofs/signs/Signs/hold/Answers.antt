use Rattle.std.proofs.Common.{◌≡◌, ◌≤◌, ap, ◌∙◌, None, arith}
use Rattle.clause_base.specs.Lit.{var_of}
use Rattle.clause_base.specs.Truth.{value_in}
use Rattle.refute_check.proofs.SignLemmas.{AreKept-push}
use Rattle.refute_check.proofs.signs.Signs.hold.Goals as goal

pub invariant_of-self-2 : goal.invariant_of-self-2
invariant_of-self-2 c =
    let i = c.self.inside in
    let le : var_of c.args.lit ≤ i.vars = omega (arith, c.requires.range, ap (λ a. a.vars) c.self.view_is) in
    let free : value_in c.args.lit i.held.items ≡ None = ap (λ a. value_in c.args.lit a.held) c.self.view_is ∙ c.requires.free in
    rw (c.in_ok-push.ensures.items, c.var.ensures.value, c.is_positive.ensures)
    (AreKept-push i.vars i.held.items i.signs.items c.args.lit c.self.invariant le free)
