use Rattle.std.proofs.Common.{◌+◌, ◌-◌, ◌<◌, ◌^◌, length, sym, ap, ◌∙◌, subst, Contains, chars, string_bytes, arith}
use Rattle.std.specs.Map.{values_of}
use Rattle.ft_msg.specs.NameTable.{names_after, number_of, AreDistinct, KeysSpellNames}
use Rattle.ft_msg.proofs.NameLemmas.{number-found, names-found, number-new, absent-new, AreDistinct-names_after, entries-inserted, values-insert_entry, KeysSpellNames-insert_entry, length-insert_entry, length-values}
use Rattle.ft_msg.proofs.names.Names.number.Goals as goal

pub returns-in-Some-clause-ok : goal.returns-in-Some-clause-ok
returns-in-Some-clause-ok c =
    number-found c.self.inside.table.entries c.as_str.result.now c.args.name.now c.in-Some.place c.as_str.utf8 c.as_str.ensures.characters c.self.invariant.0 c.in-Some.ensures.index
    ∙ ap (λ names. number_of names c.args.name.now) c.self.view_is

pub returns-in-Some-clause-names : goal.returns-in-Some-clause-names
returns-in-Some-clause-names c =
    sym c.self.view_is
    ∙ names-found c.self.inside.table.entries c.as_str.result.now c.args.name.now c.in-Some.place c.as_str.utf8 c.as_str.ensures.characters c.self.invariant.0 c.in-Some.ensures.index
    ∙ ap (λ names. names_after names c.args.name.now) c.self.view_is

pub overflow_add-number : goal.overflow_add-number
overflow_add-number c =
    let es = c.self.inside.table.entries in
    let new = absent-new es c.as_str.result.now c.args.name.now c.as_str.utf8 c.as_str.ensures.characters c.self.invariant.0 c.in_default.ensures.index in
    let few : length (values_of es) < 2 ^ 32 - 1 = subst (λ names. length names < 2 ^ 32 - 1) (sym c.self.view_is) (c.requires (λ h. new (subst (λ names. Contains names c.args.name.now) (sym c.self.view_is) h))) in
    let count = length-values es in
    let len = c.len.ensures.len in
    omega arith

pub invariant_of-self-2 : goal.invariant_of-self-2
invariant_of-self-2 c =
    let es = c.self.inside.table.entries in
    let key = c.in_ok-key.key in
    let entries =
    c.in_ok-insert.ensures.entries
    ∙ entries-inserted es key c.as_str-2.result.now c.args.name.now c.in_ok-copy.field-0 c.in_ok-key.ensures.ok c.as_str-2.ensures.characters c.in_ok-copy.ensures in
    let new = absent-new es c.as_str.result.now c.args.name.now c.as_str.utf8 c.as_str.ensures.characters c.self.invariant.0 c.in_default.ensures.index in
    let few : length (values_of es) < 2 ^ 32 - 1 = subst (λ names. length names < 2 ^ 32 - 1) (sym c.self.view_is) (c.requires (λ h. new (subst (λ names. Contains names c.args.name.now) (sym c.self.view_is) h))) in
    let count = length-values es in (
      subst KeysSpellNames (sym entries) (KeysSpellNames-insert_entry es key c.self.invariant.0),
      omega (arith, ap length entries, length-insert_entry es key (chars (string_bytes key))),
      subst AreDistinct (sym (ap values_of entries ∙ values-insert_entry es key c.self.invariant.0)) (AreDistinct-names_after (values_of es) (chars (string_bytes key)) c.self.invariant.2),
    )

pub returns-clause-ok : goal.returns-clause-ok
returns-clause-ok c =
    ap (λ n. n + 1) c.len.ensures.len
    ∙ number-new c.self.inside.table.entries c.as_str.result.now c.args.name.now c.as_str.utf8 c.as_str.ensures.characters c.self.invariant.0 c.in_default.ensures.index
    ∙ ap (λ names. number_of names c.args.name.now) c.self.view_is

pub returns-clause-names : goal.returns-clause-names
returns-clause-names c =
    let es = c.self.inside.table.entries in
    let key = c.in_ok-key.key in
    ap values_of (c.in_ok-insert.ensures.entries
    ∙ entries-inserted es key c.as_str-2.result.now c.args.name.now c.in_ok-copy.field-0 c.in_ok-key.ensures.ok c.as_str-2.ensures.characters c.in_ok-copy.ensures)
    ∙ values-insert_entry es key c.self.invariant.0
    ∙ ap (names_after (values_of es)) (ap chars c.in_ok-key.ensures.ok ∙ c.as_str-2.ensures.characters)
    ∙ ap (λ names. names_after names c.args.name.now) c.self.view_is

-- a name that has a number takes no room
pub returns-in_err-key-clause-room : goal.returns-in_err-key-clause-room
returns-in_err-key-clause-room c =
    let new = absent-new c.self.inside.table.entries c.as_str.result.now c.args.name.now c.as_str.utf8 c.as_str.ensures.characters c.self.invariant.0 c.in_default.ensures.index in
    λ h. absurd (new (subst (λ names. Contains names c.args.name.now) (sym c.self.view_is) h))

pub returns-in_err-copy-clause-room : goal.returns-in_err-copy-clause-room
returns-in_err-copy-clause-room c =
    let new = absent-new c.self.inside.table.entries c.as_str.result.now c.args.name.now c.as_str.utf8 c.as_str.ensures.characters c.self.invariant.0 c.in_default.ensures.index in
    λ h. absurd (new (subst (λ names. Contains names c.args.name.now) (sym c.self.view_is) h))

pub returns-in_err-insert-clause-room : goal.returns-in_err-insert-clause-room
returns-in_err-insert-clause-room c =
    let new = absent-new c.self.inside.table.entries c.as_str.result.now c.args.name.now c.as_str.utf8 c.as_str.ensures.characters c.self.invariant.0 c.in_default.ensures.index in
    λ h. absurd (new (subst (λ names. Contains names c.args.name.now) (sym c.self.view_is) h))
