-- What follows from the laws for those who look at clients from outside.
use Rattle.std.proofs.Common.{◌≡◌, ℕ, suc, ◌+◌, true, cond, ◌&&◌, List, [], ◌∷◌, ◌++◌, Option, Some, None, Result, Ok, Err, length, refl, sym, ◌∙◌, ap, subst, arith}
use Rattle.ft_msg.specs.declared.faults.ProcessFault.{ProcessFault}
use Rattle.ft_msg.specs.declared.messages.Entry.{Entry}
use Rattle.ft_op.specs.Document.{Document}
use Rattle.ft_msg.specs.Agreed.{take_entries}
use Rattle.ft_msg.specs.Client.{NaiveClient, client_over}
use Rattle.ft_msg.specs.ClientSteps.{ClientStep, is_without_edits, taken_entries}
use Rattle.ft_msg.specs.Content.{content, shown}
use Rattle.ft_msg.specs.Process.{after_entry, after_foreign_message, come_online, is_op, is_own, is_own_join, process, process_fault}
use Rattle.ft_msg.specs.Acknowledgement.{after_own_message}
use Rattle.ft_laws_agreement.specs.Corollaries.{AreFirstOf, ComesBack}
use Rattle.ft_laws_agreement.specs.Starts.{IsRunFrom}
use Rattle.ft_laws_agreement.proofs.ClientsAgree.{idle-clients-show-from}
use Rattle.ft_laws_agreement.proofs.CountedEntries.{steps-counted}
use Rattle.ft_laws_agreement.proofs.EveryClientReady.{join-changes_nothing-from}
use Rattle.ft_laws_agreement.proofs.AfterOwnJoin.{join-sends_again}

-- ---- its own join

abbrev process_from : NaiveClient → Entry → Option ProcessFault → Result NaiveClient ProcessFault
process_from x entry (Some fault) = Err fault
process_from x entry None = Ok (after_entry x entry)

taken : (x y : NaiveClient) (entry : Entry) (o : Option ProcessFault) → process_from x entry o ≡ Ok y → after_entry x entry ≡ y
taken x y entry (Some fault) h = (cc)
taken x y entry None h = (cc)

online : (x : NaiveClient) (entry : Entry) → is_own_join x.link entry.msg.kind entry.origin ≡ true → after_entry x entry ≡ come_online x entry
online x entry h = ap (λ b. cond b (come_online x entry) (cond (is_op entry.msg.body && is_own x entry) (after_own_message x entry) (after_foreign_message x entry))) h

pub own-join-comes_back : (start : Document) (steps : List ClientStep) (x y : NaiveClient) (entry : Entry) → IsRunFrom start steps x
    → is_own_join x.link entry.msg.kind entry.origin ≡ true → process x entry ≡ Ok y → ComesBack x y entry
own-join-comes_back start steps x y entry run own h =
    let same : come_online x entry ≡ y = sym (online x entry own) ∙ taken x y entry (process_fault x entry) h in
    subst (λ z. ComesBack x z entry) same (record { content = join-changes_nothing-from start steps x entry run; queue = join-sends_again x entry })

-- ---- the first entries of one log

no-sum : (n m : ℕ) → n + 0 ≡ n + suc m → ⊥
no-sum n m h = absurd (omega arith)

first-same : (es fs us vs log : List Entry) (n : ℕ) → es ++ us ≡ log → fs ++ vs ≡ log → n + length es ≡ n + length fs → es ≡ fs
first-same [] [] us vs log n h g e = refl
first-same [] (f ∷ fs) us vs log n h g e = absurd (no-sum n (length fs) e)
first-same (x ∷ es) [] us vs log n h g e = absurd (no-sum n (length es) (sym e))
first-same (x ∷ es) (f ∷ fs) us vs log n h g e =
    let both : x ∷ (es ++ us) ≡ f ∷ (fs ++ vs) = h ∙ sym g in
    let heads : x ≡ f = (cc) in
    let tails : es ++ us ≡ fs ++ vs = (cc) in
    let rest : es ≡ fs = first-same es fs us vs (fs ++ vs) n tails refl (omega arith) in
    ap (λ y. y ∷ es) heads ∙ ap (λ ys. f ∷ ys) rest

pub same-number-shows : (start : Document) (log : List Entry) (steps others : List ClientStep) (x y : NaiveClient) → IsRunFrom start steps x
    → IsRunFrom start others y → AreFirstOf log (taken_entries steps) → AreFirstOf log (taken_entries others)
    → is_without_edits x ≡ true → is_without_edits y ≡ true → x.doc.number ≡ y.doc.number → content x ≡ content y
same-number-shows start log steps others x y run run' first first' none none' number =
    let counted = steps-counted steps (client_over start) x run.made in
    let counted' = steps-counted others (client_over start) y run'.made in
    let same = first-same (taken_entries steps) (taken_entries others) first.later first'.later log start.number first.whole first'.whole (sym counted ∙ number ∙ counted') in
    idle-clients-show-from start steps x run none ∙ ap (λ es. shown (take_entries start es)) same ∙ sym (idle-clients-show-from start others y run' none')
