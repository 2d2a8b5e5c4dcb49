-- What a held client is told of its calls.
use Rattle.std.proofs.Common.{◌≡◌, ℕ, Bool, List, [], ◌∷◌, ◌++◌, Option, Some, None, drop, option_map, refl, sym, ◌∙◌, ap, subst, append-nil, arith}
use Rattle.ft_msg.specs.declared.messages.Draft.{Draft}
use Rattle.ft_seqr.specs.declared.refusals.Refusal.{Refusal}
use Rattle.ft_seqr.specs.Walk.{Step}
use Rattle.ft_replay.specs.LineForm.{bytes_of}
use Rattle.ft_door.specs.declared.calls.Told.TheVariants.{Full, Refused, Taken}
use Rattle.ft_door.specs.declared.clients.HeldClient.{HeldClient}
use Rattle.ft_changes.specs.declared.changes.ViewChange.{ViewChange}
use Rattle.ft_changes.specs.Shown.{ShownContent}
use Rattle.ft_change_lines.specs.ChangeTexts.{changes_text}
use Rattle.ft_door.specs.Clients.{AreTold, CallsClient, ClientGoesOn, ListensToClient, SendsDraft, ShowsClient, TellsClient, call_bytes, call_number, changes_of, refusal_bytes, unread_by}
use Rattle.ft_door.specs.Editors.{EditorState, IsTold, Leads, NaiveEditor, TellsStep, draft_bytes, informed, listening, oldest_bytes, shown_lines, with_listener, with_queue}
use Rattle.ft_door.proofs.Editing.{unheard}
use Rattle.ft_door.proofs.GivenSteps.{told-leads}

module _ {R : Type 0} (run : HeldClient R) (s t : EditorState) where
  -- a call was taken
  pub call-taken : (step : NaiveEditor → Step NaiveEditor) (exceeds : NaiveEditor → Bool) → TellsStep Taken s t step exceeds
      → CallsClient step exceeds (record run { client = Some s }) (record run { client = Some t }) 0
  call-taken step exceeds tells = record {
    client = λ x low h. (tells x h).1;
    told = λ x low h. ap call_number (sym (tells x h).0);
    written = λ x low h. sym (append-nil (unread_by run)) ∙ ap (λ refusal. unread_by run ++ call_bytes refusal) (sym (tells x h).0);
    ended = λ is. absurd (cc);
    kept = λ is. absurd (cc);
    same = λ large. absurd (omega (arith, large));
    full = λ x is. absurd (cc);
    closed = λ is. absurd (cc);
    known = refl;
    untold = λ x is. absurd (cc);
    silent = λ is. absurd (cc);
    after_end = λ none. absurd (cc);
  }

  -- it was refused, and why is written
  pub call-refused : (new : HeldClient R) (step : NaiveEditor → Step NaiveEditor) (exceeds : NaiveEditor → Bool) (why : Refusal) → new.client ≡ Some t
      → unread_by new ≡ unread_by run ++ refusal_bytes why → TellsStep (Refused why) s t step exceeds → CallsClient step exceeds (record run { client = Some s }) new 1
  call-refused new step exceeds why is written tells = record {
    client = λ x low h. subst (λ client. ClientGoesOn client (step x).made) (sym is) (tells x h).1;
    told = λ x low h. ap call_number (sym (tells x h).0);
    written = λ x low h. written ∙ ap (λ refusal. unread_by run ++ call_bytes refusal) (sym (tells x h).0);
    ended = λ is. absurd (cc);
    kept = λ is. absurd (cc);
    same = λ large. absurd (omega (arith, large));
    full = λ x is. absurd (cc);
    closed = λ is. absurd (cc);
    known = refl;
    untold = λ x is. absurd (cc);
    silent = λ is. absurd (cc);
    after_end = λ none. absurd (cc);
  }

  -- it was too much
  pub call-full : (step : NaiveEditor → Step NaiveEditor) (exceeds : NaiveEditor → Bool) → TellsStep Full s t step exceeds
      → CallsClient step exceeds (record run { client = Some s }) (record run { client = Some t }) 6
  call-full step exceeds tells = record {
    client = λ x low. absurd (omega (arith, low));
    told = λ x low. absurd (omega (arith, low));
    written = λ x low. absurd (omega (arith, low));
    ended = λ is. absurd (cc);
    kept = λ is. absurd (cc);
    same = λ large. ap (λ (c : EditorState). record run { client = Some c }) tells.0;
    full = λ x six h. tells.1 x h;
    closed = λ is. absurd (cc);
    known = refl;
    untold = λ x is. absurd (cc);
    silent = λ is. absurd (cc);
    after_end = λ none. absurd (cc);
  }

  -- it was refused, and there was no memory to write why
  pub call-untold : (new : HeldClient R) (step : NaiveEditor → Step NaiveEditor) (exceeds : NaiveEditor → Bool) (why : Refusal) → new.client ≡ Some t
      → unread_by new ≡ unread_by run → TellsStep (Refused why) s t step exceeds → CallsClient step exceeds (record run { client = Some s }) new 2
  call-untold new step exceeds why is unread tells = record {
    client = λ x low. absurd (omega (arith, low));
    told = λ x low. absurd (omega (arith, low));
    written = λ x low. absurd (omega (arith, low));
    ended = λ is. absurd (cc);
    kept = λ is. absurd (cc);
    same = λ large. absurd (omega (arith, large));
    full = λ x is. absurd (cc);
    closed = λ is. absurd (cc);
    known = refl;
    untold = λ x two h. (why, (tells x h).0, subst (λ client. ClientGoesOn client (step x).made) (sym is) (tells x h).1);
    silent = λ two. unread;
    after_end = λ none. absurd (cc);
  }

-- a draft was written, and counts as sent
pub draft-sent : {R : Type 0} (old new : HeldClient R) (line : List ℕ) → (old.client ≡ None → ⊥) → unread_by new ≡ unread_by old ++ line
    → ((x : NaiveEditor) → ClientGoesOn old.client x → oldest_bytes x.client.queue ≡ Some line)
    → ((x : NaiveEditor) → ClientGoesOn old.client x → ClientGoesOn new.client (with_queue (drop 1 x.client.queue) x)) → SendsDraft old new 0
draft-sent old new line runs written oldest sent = record {
  sent = λ x zero h. by x h x.client.queue refl (oldest x h);
  none = λ x is. absurd (cc);
  client = λ large. absurd (omega (arith, large));
  unread = λ large. absurd (omega (arith, large));
  closed = λ is. absurd (cc);
  known = refl;
  after_end = λ none. absurd (runs none);
}
  where
    by : (x : NaiveEditor) → ClientGoesOn old.client x → (queue : List Draft) → x.client.queue ≡ queue → oldest_bytes queue ≡ Some line
        → (d : Draft) × (ds : List Draft) × (x.client.queue ≡ d ∷ ds) × ClientGoesOn new.client (with_queue ds x) × (unread_by new ≡ unread_by old ++ draft_bytes d)
    by x h [] e o = absurd (cc)
    by x h (d ∷ ds) e o =
        let same : draft_bytes d ≡ line = (cc) in (
          d,
          ds,
          e,
          subst (λ queue. ClientGoesOn new.client (with_queue (drop 1 queue) x)) e (sent x h),
          written ∙ ap (λ bytes. unread_by old ++ bytes) (sym same),
        )

-- there was no memory for a call
pub call-ended : {R : Type 0} (old new : HeldClient R) (step : NaiveEditor → Step NaiveEditor) (exceeds : NaiveEditor → Bool) → (old.client ≡ None → ⊥) → new.client ≡ None
    → unread_by new ≡ unread_by old → CallsClient step exceeds old new 5
call-ended old new step exceeds runs is same = record {
  client = λ x low. absurd (omega (arith, low));
  told = λ x low. absurd (omega (arith, low));
  written = λ x low. absurd (omega (arith, low));
  ended = λ five. is;
  kept = λ five. same;
  same = λ large. absurd (omega (arith, large));
  full = λ x is. absurd (cc);
  closed = λ is. absurd (cc);
  known = refl;
  untold = λ x is. absurd (cc);
  silent = λ is. absurd (cc);
  after_end = λ none. absurd (runs none);
}

-- there is nothing to send
pub nothing-sent : {R : Type 0} (run : HeldClient R) → (run.client ≡ None → ⊥) → ((x : NaiveEditor) → ClientGoesOn run.client x → None ≡ oldest_bytes x.client.queue) → SendsDraft run run 8
nothing-sent run runs oldest = record {
  sent = λ x zero. absurd (cc);
  none = λ x eight h. by x.client.queue (oldest x h);
  client = λ large. refl;
  unread = λ large. refl;
  closed = λ is. absurd (cc);
  known = refl;
  after_end = λ none. absurd (runs none);
}
  where
    by : (queue : List Draft) → None ≡ oldest_bytes queue → queue ≡ []
    by [] e = refl
    by (d ∷ ds) e = absurd (cc)

-- there was no memory for a draft
pub draft-kept : {R : Type 0} (old new : HeldClient R) → (old.client ≡ None → ⊥) → new.client ≡ old.client → unread_by new ≡ unread_by old → SendsDraft old new 5
draft-kept old new runs client unread = record {
  sent = λ x zero. absurd (cc);
  none = λ x is. absurd (cc);
  client = λ large. client;
  unread = λ large. unread;
  closed = λ is. absurd (cc);
  known = refl;
  after_end = λ none. absurd (runs none);
}

-- a view is written, or there was no memory for it
pub view-shown : {R : Type 0} (old new : HeldClient R) → (old.client ≡ None → ⊥) → new.client ≡ old.client
    → ((x : NaiveEditor) → ClientGoesOn old.client x → unread_by new ≡ unread_by old ++ bytes_of (shown_lines x)) → ShowsClient old new 0
view-shown old new runs is shown = record {
  shown = λ x zero h. shown x h;
  client = is;
  unread = λ large. absurd (omega (arith, large));
  closed = λ is. absurd (cc);
  known = refl;
  after_end = λ none. absurd (runs none);
}

pub view-kept : {R : Type 0} (old new : HeldClient R) → (old.client ≡ None → ⊥) → new.client ≡ old.client → unread_by new ≡ unread_by old → ShowsClient old new 5
view-kept old new runs client unread = record {
  shown = λ x zero. absurd (cc);
  client = client;
  unread = λ large. unread;
  closed = λ is. absurd (cc);
  known = refl;
  after_end = λ none. absurd (runs none);
}

-- a listener begins, or there is none any more; or there was no memory for what is told
pub listens-now : {R : Type 0} (listens : Bool) (old new : HeldClient R) → (old.client ≡ None → ⊥) → unread_by new ≡ unread_by old
    → ((x : NaiveEditor) → ClientGoesOn old.client x → ClientGoesOn new.client (with_listener (listening listens) x)) → ListensToClient listens old new 0
listens-now listens old new runs unread begins = record {
  client = λ x zero h. begins x h;
  unread = unread;
  same = λ large. absurd (omega (arith, large));
  closed = λ is. absurd (cc);
  known = refl;
  after_end = λ none. absurd (runs none);
}

pub listens-as-before : {R : Type 0} (listens : Bool) (old new : HeldClient R) → (old.client ≡ None → ⊥) → unread_by new ≡ unread_by old → new.client ≡ old.client
    → ListensToClient listens old new 5
listens-as-before listens old new runs unread same = record {
  client = λ x zero. absurd (cc);
  unread = unread;
  same = λ large. same;
  closed = λ is. absurd (cc);
  known = refl;
  after_end = λ none. absurd (runs none);
}

-- ---- what changes

-- for which editor a client stands that has changes to tell: those that its listener wasn't told
record HasListener (client : Option EditorState) (x : NaiveEditor) (changes : List ViewChange) : Type 0 where
  pub shown : ShownContent
  pub listener : x.listener ≡ Some shown
  pub told : IsTold shown changes x.client

listener-of : (client : Option EditorState) (changes : List ViewChange) → changes_of client ≡ Some changes → (x : NaiveEditor) → ClientGoesOn client x → HasListener client x changes
listener-of None changes e x h = absurd h
listener-of (Some s) changes e x h = by x.listener s.told refl e h.leads
  where
    by : (shown : Option ShownContent) (told : Option (List ViewChange)) → x.listener ≡ shown → told ≡ Some changes → Leads shown told x.client → HasListener (Some s) x changes
    by (Some c) (Some cs) l is leads = let same : cs ≡ changes = (cc) in record { shown = c; listener = l; told = subst (λ ds. IsTold c ds x.client) same leads }
    by (Some c) None l is leads = absurd leads
    by None (Some cs) l is leads = absurd leads
    by None None l is leads = absurd (cc)

-- their texts were written, and none is left
pub changes-told : {R : Type 0} (old new : HeldClient R) (lines : List ℕ) → (old.client ≡ None → ⊥) → option_map changes_text (changes_of old.client) ≡ Some lines
    → unread_by new ≡ unread_by old ++ lines → ((x : NaiveEditor) → ClientGoesOn old.client x → ClientGoesOn new.client (informed x))
    → changes_of new.client ≡ option_map (λ _. []) (changes_of old.client) → TellsClient old new 0
changes-told old new lines runs texts written counted none = record {
  told = λ x zero h. by x h (changes_of old.client) refl texts none;
  none = λ x is. absurd (cc);
  client = λ large. absurd (omega (arith, large));
  unread = λ large. absurd (omega (arith, large));
  closed = λ is. absurd (cc);
  known = refl;
  after_end = λ ended. absurd (runs ended);
}
  where
    by : (x : NaiveEditor) → ClientGoesOn old.client x → (told : Option (List ViewChange)) → changes_of old.client ≡ told → option_map changes_text told ≡ Some lines
        → changes_of new.client ≡ option_map (λ _. []) told → (shown : ShownContent) × (changes : List ViewChange) × AreTold old new x shown changes
    by x h None is e left = absurd (cc)
    by x h (Some changes) is e left =
        let l = listener-of old.client changes is x h in
        let same : changes_text changes ≡ lines = (cc) in (
          l.shown,
          changes,
          record {
            listener = l.listener;
            all = is;
            written = written ∙ ap (λ bytes. unread_by old ++ bytes) (sym same);
            told = l.told;
            lead = told-leads l.shown changes x.client l.told;
            client = counted x h;
            none_left = left;
          },
        )

-- nobody listens
pub nobody-told : {R : Type 0} (run : HeldClient R) → (run.client ≡ None → ⊥) → None ≡ option_map changes_text (changes_of run.client) → TellsClient run run 8
nobody-told run runs texts = record {
  told = λ x zero. absurd (cc);
  none = λ x eight h. by run.client runs texts x h;
  client = λ large. refl;
  unread = λ large. refl;
  closed = λ is. absurd (cc);
  known = refl;
  after_end = λ none. absurd (runs none);
}
  where
    no-changes : (told : Option (List ViewChange)) → None ≡ option_map changes_text told → told ≡ None
    no-changes None e = refl
    no-changes (Some changes) e = absurd (cc)

    by : (client : Option EditorState) → (client ≡ None → ⊥) → None ≡ option_map changes_text (changes_of client) → (x : NaiveEditor) → ClientGoesOn client x → x.listener ≡ None
    by None goes e x h = absurd h
    by (Some s) goes e x h = unheard x.listener s.told x.client h.leads (no-changes s.told e)

-- there was no memory for the lines
pub changes-kept : {R : Type 0} (old new : HeldClient R) → (old.client ≡ None → ⊥) → new.client ≡ old.client → unread_by new ≡ unread_by old → TellsClient old new 5
changes-kept old new runs client unread = record {
  told = λ x zero. absurd (cc);
  none = λ x is. absurd (cc);
  client = λ large. client;
  unread = λ large. unread;
  closed = λ is. absurd (cc);
  known = refl;
  after_end = λ none. absurd (runs none);
}
