use Rattle.std.proofs.Common.{◌≡◌, ℕ, get_or, Some, None, refl, ap, subst}
use Rattle.slab.proofs.SlabLemmas.{Updates-with_value}
use Rattle.ft_refs.specs.RefLists.{entry, place_of_entry, owner_of_place}
use Rattle.ft_refs.proofs.ListLemmas.{at_view, held_within, read_at, seen_sound}
use Rattle.ft_refs.proofs.PushLemmas.{push_place, pushed_lists, pushed_list, pushed_other, pushed_changes}
use Rattle.ft_refs.proofs.refs.Refs.push.Goals as goal

pub set_next-requires : goal.set_next-requires
set_next-requires c =
    push_place c.self.inside.slots _ c.self.inside.slots c.self.inside.ends.items c.index.result.now None c.r.inside.0 c.args.owner c.args.offset c.self.invariant
    (read_at c.self.inside.ends.items c.args.owner c.index.result.now (held_within c.self.inside.slots c.self.inside.ends.items c.args.self.now c.args.owner c.args.owner c.self.view_is refl c.requires.held) (subst (λ (i : ℕ). c.index.result.now ≡ get_or c.self.inside.ends.items i c.index.result.now) c.owner.view_is c.index.ensures))
    (held_within c.self.inside.slots c.self.inside.ends.items c.args.self.now c.args.owner c.args.owner c.self.view_is refl c.requires.held) (ap (λ q. owner_of_place (place_of_entry q)) (at_view (λ s i. entry s i ≡ Some None) c.self.inside.slots c.self.inside.ends.items c.args.self.now c.r.inside.0 c.args.r c.self.view_is c.r.view_is c.requires.detached))
    (Updates-with_value c.self.inside.slots c.r.inside.0 _ (rw c.index_mut.ensures.value refl))

pub invariant_of-self : goal.invariant_of-self
invariant_of-self c =
    rw (c.owner-2.view_is, c.link_to-here.ensures, ← c.r.view_is)
    (pushed_lists c.self.inside.slots _ c.set_next.new.slots c.self.inside.ends.items c.index.result.now c.set_next.new.first
    c.r.inside.0 c.args.owner c.args.offset c.self.invariant
    (read_at c.self.inside.ends.items c.args.owner c.index.result.now (held_within c.self.inside.slots c.self.inside.ends.items c.args.self.now c.args.owner c.args.owner c.self.view_is refl c.requires.held) (subst (λ (i : ℕ). c.index.result.now ≡ get_or c.self.inside.ends.items i c.index.result.now) c.owner.view_is c.index.ensures))
    (held_within c.self.inside.slots c.self.inside.ends.items c.args.self.now c.args.owner c.args.owner c.self.view_is refl c.requires.held) (ap (λ q. owner_of_place (place_of_entry q)) (at_view (λ s i. entry s i ≡ Some None) c.self.inside.slots c.self.inside.ends.items c.args.self.now c.r.inside.0 c.args.r c.self.view_is c.r.view_is c.requires.detached))
    (Updates-with_value c.self.inside.slots c.r.inside.0 _ (rw c.index_mut.ensures.value refl)) (rw (c.link_to-here.ensures, ← c.r.view_is) at c.set_next.ensures))

pub returns-clause-sound : goal.returns-clause-sound
returns-clause-sound c = seen_sound _ _ (invariant_of-self c)

pub returns-clause-list : goal.returns-clause-list
returns-clause-list c =
    rw (← c.self.view_is, c.link_to-here.ensures, ← c.r.view_is, c.owner-2.view_is)
    (pushed_list c.self.inside.slots _ c.set_next.new.slots c.self.inside.ends.items c.index.result.now c.set_next.new.first
    c.r.inside.0 c.args.owner c.args.offset c.self.invariant
    (read_at c.self.inside.ends.items c.args.owner c.index.result.now (held_within c.self.inside.slots c.self.inside.ends.items c.args.self.now c.args.owner c.args.owner c.self.view_is refl c.requires.held) (subst (λ (i : ℕ). c.index.result.now ≡ get_or c.self.inside.ends.items i c.index.result.now) c.owner.view_is c.index.ensures))
    (held_within c.self.inside.slots c.self.inside.ends.items c.args.self.now c.args.owner c.args.owner c.self.view_is refl c.requires.held) (ap (λ q. owner_of_place (place_of_entry q)) (at_view (λ s i. entry s i ≡ Some None) c.self.inside.slots c.self.inside.ends.items c.args.self.now c.r.inside.0 c.args.r c.self.view_is c.r.view_is c.requires.detached))
    (Updates-with_value c.self.inside.slots c.r.inside.0 _ (rw c.index_mut.ensures.value refl)) (rw (c.link_to-here.ensures, ← c.r.view_is) at c.set_next.ensures))

pub returns-clause-others : goal.returns-clause-others
returns-clause-others c =
    rw (← c.self.view_is, c.link_to-here.ensures, ← c.r.view_is, c.owner-2.view_is)
    (pushed_other c.self.inside.slots _ c.set_next.new.slots c.self.inside.ends.items c.index.result.now c.set_next.new.first
    c.r.inside.0 c.args.owner c.args.offset c.self.invariant
    (read_at c.self.inside.ends.items c.args.owner c.index.result.now (held_within c.self.inside.slots c.self.inside.ends.items c.args.self.now c.args.owner c.args.owner c.self.view_is refl c.requires.held) (subst (λ (i : ℕ). c.index.result.now ≡ get_or c.self.inside.ends.items i c.index.result.now) c.owner.view_is c.index.ensures))
    (held_within c.self.inside.slots c.self.inside.ends.items c.args.self.now c.args.owner c.args.owner c.self.view_is refl c.requires.held) (ap (λ q. owner_of_place (place_of_entry q)) (at_view (λ s i. entry s i ≡ Some None) c.self.inside.slots c.self.inside.ends.items c.args.self.now c.r.inside.0 c.args.r c.self.view_is c.r.view_is c.requires.detached))
    (Updates-with_value c.self.inside.slots c.r.inside.0 _ (rw c.index_mut.ensures.value refl)) (rw (c.link_to-here.ensures, ← c.r.view_is) at c.set_next.ensures))

pub returns-clause-changes : goal.returns-clause-changes
returns-clause-changes c =
    rw (← c.self.view_is, c.link_to-here.ensures, ← c.r.view_is, c.owner-2.view_is)
    (pushed_changes c.self.inside.slots _ c.set_next.new.slots c.self.inside.ends.items c.index.result.now c.set_next.new.first
    c.r.inside.0 c.args.owner c.args.offset c.self.invariant
    (read_at c.self.inside.ends.items c.args.owner c.index.result.now (held_within c.self.inside.slots c.self.inside.ends.items c.args.self.now c.args.owner c.args.owner c.self.view_is refl c.requires.held) (subst (λ (i : ℕ). c.index.result.now ≡ get_or c.self.inside.ends.items i c.index.result.now) c.owner.view_is c.index.ensures))
    (held_within c.self.inside.slots c.self.inside.ends.items c.args.self.now c.args.owner c.args.owner c.self.view_is refl c.requires.held) (ap (λ q. owner_of_place (place_of_entry q)) (at_view (λ s i. entry s i ≡ Some None) c.self.inside.slots c.self.inside.ends.items c.args.self.now c.r.inside.0 c.args.r c.self.view_is c.r.view_is c.requires.detached))
    (Updates-with_value c.self.inside.slots c.r.inside.0 _ (rw c.index_mut.ensures.value refl)) (rw (c.link_to-here.ensures, ← c.r.view_is) at c.set_next.ensures))
