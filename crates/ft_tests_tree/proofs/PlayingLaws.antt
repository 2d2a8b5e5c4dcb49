-- What goes together while a script is played goes on together after each call.
use Rattle.std.proofs.Common.{◌≡◌, Bool, true, false, IsTrue, option_map, sym, ◌∙◌, ap}
use Rattle.ft_tree_leaves.specs.declared.references.Reference.{Reference}
use Rattle.ft_tree_leaves.specs.declared.text.TextContent.{TextContent}
use Rattle.ft_tree_leaves.specs.References.{ChangesReferences, KeepsReferences}
use Rattle.ft_tests_tree.specs.Passing.{Passes}
use Rattle.ft_tests_tree.specs.Playing.{Stays, Together}
use Rattle.ft_tree.specs.State.{KeepsRest, TreeState}

-- a call after which references stay
pub stays-kept : {old now : TreeState TextContent} → IsTrue old.usable → KeepsRest old now → KeepsReferences old.refs now.refs → Stays old now
stays-kept usable rest refs = record {
  usable = rest.usable ∙ usable;
  free = λ h r. refs r ∙ h r;
}

-- one after which each reference is changed
pub stays-changed : {old now : TreeState TextContent} (f : Reference → Reference) → now.usable ≡ true → ChangesReferences f old.refs now.refs → Stays old now
stays-changed f usable refs = record {
  usable = usable;
  free = λ h r. refs r ∙ ap (option_map f) (h r);
}

module _ {t : TreeState TextContent} {calm : Bool} (h : Together t calm) where
  -- after an edit
  pub after-edit : {now : TreeState TextContent} {still : Bool} → Passes t now → still ≡ calm → Together now still
  after-edit s same = record {
    usable = s.rest.usable ∙ h.usable;
    calm = λ e. s.calm (h.calm (sym same ∙ e));
    free = s.free h.free;
  }

  -- after a call behind which changes of properties may be pending
  pub after-rough : {now : TreeState TextContent} → Stays t now → Together now false
  after-rough s = record {
    usable = s.usable;
    calm = λ e. absurd cc;
    free = s.free h.free;
  }
