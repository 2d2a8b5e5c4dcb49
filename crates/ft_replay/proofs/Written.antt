-- What a sink has taken of some bytes.
use Rattle.std.proofs.Common.{◌≡◌, ℕ, ◌≤◌, List, [], ◌++◌, Option, Result, Ok, Err, IfErr, OnOk, take, drop, refl, sym, ◌∙◌, ap, subst, append_assoc}
use Rattle.std.proofs.lemmas.List.{take-append-drop}
use Rattle.std.specs.Io.KnownBytes.{Appends}
use Rattle.ft_io.specs.Streams.{Rose}
use Rattle.ft_io.proofs.TakenAndLeft.{Appends-nil}
use Rattle.ft_replay.specs.declared.endings.Fault.{Fault}
use Rattle.ft_replay.specs.declared.endings.Fault.TheVariants.{Read, Write, OutOfMemory, InputLimit}
use Rattle.ft_replay.specs.Writing.{Begins, SaysOfWritten, WritesBytes}

-- the first n bytes
pub begins_take : (n : ℕ) (bytes : List ℕ) → Begins (take n bytes) bytes
begins_take n bytes = record { later = drop n bytes; place = sym (take-append-drop n bytes) }

-- no bytes
pub begins_nil : (bytes : List ℕ) → Begins [] bytes
begins_nil bytes = record { later = bytes; place = refl }

-- the sink failed and took the first n bytes
pub writes_failed : {T : Type 0} (held holds : Option (List ℕ)) (before now n : ℕ) (bytes : List ℕ) (result : Result T Fault) → result ≡ Err Write
    → Appends held holds (take n bytes) → before ≤ now → Rose before now → WritesBytes held holds before now bytes result
writes_failed {T} held holds before now n bytes result is takes later rose =
    subst (WritesBytes {T = T} held holds before now bytes) (sym is) (record { written = take n bytes; takes = takes; later = later; says = (rose, begins_take n bytes) })

-- what a fault says of the bytes written doesn't know what is answered where there is none
said_of_fault : (T U : Type 0) (rose : Type 0) (bytes written : List ℕ) (fault : Fault)
    → SaysOfWritten {T = T} rose bytes written (Err fault) → SaysOfWritten {T = U} rose bytes written (Err fault)
said_of_fault T U rose bytes written Read h = h
said_of_fault T U rose bytes written Write h = h
said_of_fault T U rose bytes written OutOfMemory h = h
said_of_fault T U rose bytes written InputLimit h = h

-- no memory was found before anything was written
pub writes_nothing : {T : Type 0} (held : Option (List ℕ)) (now : ℕ) (bytes : List ℕ) (result : Result T Fault) → result ≡ Err OutOfMemory → now ≤ now
    → WritesBytes held held now now bytes result
writes_nothing {T} held now bytes result is same =
    subst (WritesBytes {T = T} held held now now bytes) (sym is) (record { written = []; takes = Appends-nil held; later = same; says = begins_nil bytes })

-- a fault says the same of the bytes written, whatever is answered where there is none
pub writes_fault : (T U : Type 0) (held holds : Option (List ℕ)) (before now : ℕ) (bytes other : List ℕ) (fault : Fault) (result : Result U Fault)
    → result ≡ Err fault → bytes ≡ other → WritesBytes {T = T} held holds before now bytes (Err fault) → WritesBytes {T = U} held holds before now other result
writes_fault T U held holds before now bytes other fault result is same h =
    subst (WritesBytes {T = U} held holds before now other) (sym is) (subst (λ bs. WritesBytes {T = U} held holds before now bs (Err fault)) same
    (record { written = h.written; takes = h.takes; later = h.later; says = said_of_fault T U (Rose before now) bytes h.written fault h.says }))

-- all was written, and something else is returned
pub writes_done : (T U : Type 0) (held holds : Option (List ℕ)) (before now : ℕ) (bytes other : List ℕ) (done : T) (more : U) → bytes ≡ other
    → WritesBytes {T = T} held holds before now bytes (Ok done) → WritesBytes {T = U} held holds before now other (Ok more)
writes_done T U held holds before now bytes other done more same h =
    record { written = h.written; takes = h.takes; later = h.later; says = h.says ∙ same }

-- what was written says the same where a value is returned once that is done
pub writes_after : (D T : Type 0) (held holds : Option (List ℕ)) (before now : ℕ) (bytes : List ℕ) (done : Result D Fault) (result : Result T Fault)
    → OnOk result ((d : D) × (done ≡ Ok d)) → IfErr result (λ fault. done ≡ Err fault) → WritesBytes {T = D} held holds before now bytes done → WritesBytes {T = T} held holds before now bytes result
writes_after D T held holds before now bytes done (Ok value) (d, is) err h =
    writes_done D T held holds before now bytes bytes d value refl (subst (WritesBytes {T = D} held holds before now bytes) is h)
writes_after D T held holds before now bytes done (Err fault) ok is h =
    writes_fault D T held holds before now bytes bytes fault (Err fault) refl refl (subst (WritesBytes {T = D} held holds before now bytes) is h)

-- behind what was written before
pub begins_append : (done : List ℕ) {front whole : List ℕ} → Begins front whole → Begins (done ++ front) (done ++ whole)
begins_append done {front} {whole} b =
    record { later = b.later; place = ap (λ bytes. done ++ bytes) b.place ∙ sym (append_assoc done front b.later) }

-- before more
pub begins_more : (more : List ℕ) {front whole : List ℕ} → Begins front whole → Begins front (whole ++ more)
begins_more more {front} {whole} b =
    record { later = b.later ++ more; place = ap (λ bytes. bytes ++ more) b.place ∙ append_assoc front b.later more }

pub begins_trans : {front middle whole : List ℕ} → Begins front middle → Begins middle whole → Begins front whole
begins_trans {front} {middle} {whole} a b =
    record { later = a.later ++ b.later; place = b.place ∙ ap (λ bytes. bytes ++ b.later) a.place ∙ append_assoc front a.later b.later }
