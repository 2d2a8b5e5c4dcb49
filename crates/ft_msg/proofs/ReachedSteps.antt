-- A client after one more step is reached too.
use Rattle.std.proofs.Common.{◌≡◌, ℕ, Bool, true, cond, not, ◌&&◌, List, [], ◌∷◌, ◌++◌, Option, Some, None, Ok, refl, ◌∙◌, ap, drop}
use Rattle.std.specs.List.{list_all}
use Rattle.ft_base.proofs.Booleans.{both}
use Rattle.ft_msg.specs.declared.messages.Body.{Body}
use Rattle.ft_msg.specs.declared.messages.Entry.{Entry}
use Rattle.ft_msg.specs.declared.messages.MsgKind.{MsgKind}
use Rattle.ft_msg.specs.declared.messages.MsgKind.TheVariants as kinds
use Rattle.ft_props.specs.Properties.{Characters}
use Rattle.ft_msg.specs.Client.{NaiveClient, client_over, connect, drop_link, noop}
use Rattle.ft_msg.specs.ClientSteps.{ClientStep, Edits, Connects, Drops, Idles, Sends, Restarts, Takes, after_step, after_steps, has_fitting_body, taken_entries, unless_refused}
use Rattle.ft_msg.specs.Process.{is_op_kind, process}
use Rattle.ft_msg.specs.Reached.{IsReached}
use Rattle.ft_msg.specs.WellFormed.{HasItsParts, IsWellFormedMessage, has_body}

pub after-one : (steps : List ClientStep) (o : Option NaiveClient) (step : ClientStep) (x y : NaiveClient) → after_steps o steps ≡ Some x → after_step x step ≡ Some y → after_steps o (steps ++ (step ∷ [])) ≡ Some y
after-one [] None step x y h k = (cc)
after-one [] (Some z) step x y h k = let e : z ≡ x = (cc) in ap (λ w. after_steps (after_step w step) []) e ∙ ap (λ o. after_steps o []) k
after-one (first ∷ steps) None step x y h k = (cc)
after-one (first ∷ steps) (Some z) step x y h k = after-one steps (after_step z first) step x y h k

and_true : (a b : Bool) → a ≡ true → b ≡ true → a && b ≡ true
and_true a b h k = rw (h, k) refl

pub bodies-one : (steps : List ClientStep) (step : ClientStep) → list_all has_fitting_body (taken_entries steps) ≡ true → list_all has_fitting_body (taken_entries (step ∷ [])) ≡ true
    → list_all has_fitting_body (taken_entries (steps ++ (step ∷ []))) ≡ true
bodies-one [] step h k = k
bodies-one (Takes entry ∷ steps) step h k = let b = both (has_fitting_body entry) (list_all has_fitting_body (taken_entries steps)) h in and_true (has_fitting_body entry) _ b.0 (bodies-one steps step b.1 k)
bodies-one (Edits op ∷ steps) step h k = bodies-one steps step h k
bodies-one (Connects conn ∷ steps) step h k = bodies-one steps step h k
bodies-one (Drops ∷ steps) step h k = bodies-one steps step h k
bodies-one (Idles ∷ steps) step h k = bodies-one steps step h k
bodies-one (Sends ∷ steps) step h k = bodies-one steps step h k
bodies-one (Restarts ∷ steps) step h k = bodies-one steps step h k

pub reached-after : (x y : NaiveClient) (step : ClientStep) → IsReached x → after_step x step ≡ Some y → list_all has_fitting_body (taken_entries (step ∷ [])) ≡ true → IsReached y
reached-after x y step r h k = record {
  start = r.start;
  starts = r.starts;
  steps = r.steps ++ (step ∷ []);
  made = after-one r.steps (Some (client_over r.start)) step x y r.made h;
  bodies = bodies-one r.steps step r.bodies k;
}

pub reached-connect : (x y : NaiveClient) (conn : ℕ) → IsReached x → connect x conn ≡ Ok y → IsReached y
reached-connect x y conn r h = reached-after x y (Connects conn) r (ap unless_refused h) refl

pub reached-drop : (x y : NaiveClient) → IsReached x → drop_link x ≡ Ok y → IsReached y
reached-drop x y r h = reached-after x y Drops r (ap unless_refused h) refl

fits-parts : (kind : MsgKind) (sender : Option Characters) (body : Body) → HasItsParts kind sender body → cond (is_op_kind kind) (has_body body) (not (has_body body)) ≡ true
fits-parts kinds.Op sender body h = h.1
fits-parts kinds.Join sender body h = ap not h
fits-parts kinds.Leave sender body h = ap not h
fits-parts kinds.Noop sender body h = ap not h
fits-parts (kinds.Other word) sender body h = ap not h

-- a well-formed message has a body just where it is of type op
pub well-formed-fits : (entry : Entry) → IsWellFormedMessage entry.msg → has_fitting_body entry ≡ true
well-formed-fits entry w = fits-parts entry.msg.kind entry.msg.client_id entry.msg.body w.parts

pub reached-process : (x y : NaiveClient) (entry : Entry) → IsWellFormedMessage entry.msg → IsReached x → process x entry ≡ Ok y → IsReached y
reached-process x y entry w r h = reached-after x y (Takes entry) r (ap unless_refused h) (and_true (has_fitting_body entry) true (well-formed-fits entry w) refl)

pub reached-noop : (x y : NaiveClient) → IsReached x → noop x ≡ Ok y → IsReached y
reached-noop x y r h = reached-after x y Idles r (ap unless_refused h) refl

pub reached-send : (x : NaiveClient) → IsReached x → IsReached (record x { queue = drop 1 x.queue })
reached-send x r = reached-after x (record x { queue = drop 1 x.queue }) Sends r refl refl
