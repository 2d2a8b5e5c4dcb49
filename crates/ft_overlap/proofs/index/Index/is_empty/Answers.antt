use Rattle.std.proofs.Common.{◌≡◌, ◌≤◌, ℕ, true, false, Option, Some, None, IsTrue, length, not, pos, refl, sym, ap, ◌∙◌}
use Rattle.std.specs.Prelude.{is_some}
use Rattle.ft_overlap.specs.Items.{no_items}
use Rattle.ft_overlap.proofs.Whole.{in_bare, in_some}
use Rattle.ft_overlap.proofs.index.Index.is_empty.Goals as goal

pub returns-clause-none : goal.returns-clause-none
returns-clause-none c = λ empty. by empty c.self.inside.root refl
  where
    by : IsTrue c.is_none.result → (o : Option ℕ) → c.self.inside.root ≡ o → c.args.self.now ≡ no_items
    by empty None e = in_bare (λ x. pos x) c.self.inside c.args.self.now c.self.view_is c.self.invariant e
    by empty (Some root) e = absurd (let n : true ≡ false = sym (ap is_some e) ∙ c.is_none.ensures ∙ ap not empty in cc n)

pub returns-clause-some : goal.returns-clause-some
returns-clause-some c = λ full. by full c.self.inside.root refl
  where
    by : c.is_none.result ≡ false → (o : Option ℕ) → c.self.inside.root ≡ o → 1 ≤ length c.args.self.now.items
    by full None e = absurd (let n : true ≡ false = sym (c.is_none.ensures ∙ ap not full) ∙ ap is_some e in cc n)
    by full (Some root) e = in_some (λ x. pos x) c.self.inside c.args.self.now c.self.view_is c.self.invariant root e
