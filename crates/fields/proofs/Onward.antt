-- From field to field.
use mathlib.Core.Path.{◌≡◌, refl, sym, ap, subst, ◌∙◌}
use mathlib.Core.Bool.{false}
use mathlib.Core.List.{List, [], ◌++◌}
use Prim.Native.Nat.{ℕ, ◌<◌, ◌≤◌}
use native.Mathlib.Nat.{zero-sub}
use native.Mathlib.Omega.{arith}
use lib.ListN.{length}
use Rattle.std.specs.Prelude.{Option, unwrap_or}
use Rattle.wire.specs.declared.block.Span.{Span}
use Rattle.wire.specs.Varint.{number_at}
use Rattle.wire.specs.Layout.{after_key, fields_from}
use Rattle.fault.specs.Fault.{Fault, leftmost, read_as, refused, judged}
use Rattle.wire.specs.Lists.{entries, padded}
use Rattle.fault.specs.Refusals.{refusal_number}
use Rattle.fault.specs.declared.Refusal.{Refusal}
use Rattle.fault.proofs.Order.{Between, append_refused, append_read}
use Rattle.wire.proofs.Places.{at_end, one_more}
use Rattle.fields.specs.Schema.{Form, Unknown, Bytes, Provers, Verifiers, Bit, form_in}
use Rattle.fields.specs.Faults.{FieldNumbers, no_numbers, adding, field_of, of_field, of_fields}
use Rattle.fields.specs.Message.{with_field, with_fields}
use Rattle.fields.specs.Fields.{Fields, Stage, Step, Tidy, TidyStep, is_read, nothing, proceed, seen_in, stage, step_in, stop, view_of}
use Rattle.fields.specs.Steps.{FieldStep, fields_of}
use Rattle.fields.proofs.FieldSteps.{field_between, field_ends, fields_from_lem}

-- The bytes of a field that may not have been read.
abbrev pub span_or_none : Option Span → Span
span_or_none part = unwrap_or part (record { place = 0; size = 0 })

-- The fields read so far, with those to come, are the message.
pub record Onward (number : ℕ) (bytes : List ℕ) (start : ℕ) (f : Fields) (provers verifiers : List ℕ) (at : ℕ) : Type 0 where
  pub reads :
      judged (of_fields (form_in number) (seen_in number f.read) bytes (fields_from bytes at)) (with_fields bytes (fields_from bytes at) (view_of number f provers verifiers))
      ≡ fields_of number bytes start

-- No field has been read.
none_read : (form : Form) → is_read form nothing.read ≡ false
none_read Unknown = refl
none_read Bytes = refl
none_read Provers = refl
none_read Verifiers = refl
none_read Bit = refl

none_seen : (number : ℕ) → seen_in number nothing.read ≡ no_numbers
none_seen number = λ i n. none_read (form_in number n) i

pub no_entries : (list : List ℕ) → entries 0 list ≡ []
no_entries list = rw (zero-sub (length list))

pub tidy_first : (provers verifiers : List ℕ) → provers ≡ padded [] → verifiers ≡ padded [] → Tidy nothing provers verifiers
tidy_first provers verifiers p v = ((omega arith, p ∙ ap padded (sym (no_entries provers))), (omega arith, v ∙ ap padded (sym (no_entries verifiers))))

pub begins : (number : ℕ) (bytes : List ℕ) (start : ℕ) (provers verifiers : List ℕ) → Onward number bytes start nothing provers verifiers start
unfolding fields_of
begins number bytes start provers verifiers = record { reads = rw (none_seen number, no_entries provers, no_entries verifiers) }

module _ (number : ℕ) (bytes : List ℕ) (start : ℕ) (f : Fields) (provers verifiers : List ℕ) (at : ℕ) (o : Onward number bytes start f provers verifiers at) where
  -- All fields have been read.
  pub ends : length bytes ≤ at → read_as (view_of number f provers verifiers) ≡ fields_of number bytes start
  unfolding leftmost of_fields with_fields
  ends h = rw (← o.reads, at_end bytes (λ place. after_key bytes (number_at bytes place)) at h)

  module _ (h : at < length bytes) (r : Step) (provers' verifiers' : List ℕ) (s : FieldStep number bytes at f provers verifiers r provers' verifiers') where
    abbrev next : ℕ
    next = after_key bytes (number_at bytes at)

    abbrev here : List Fault
    here = of_field (form_in number) (seen_in number f.read) bytes at (number_at bytes at)

    abbrev former : FieldNumbers
    former = adding (field_of (number_at bytes at)) (seen_in number f.read)

    abbrev later : List Fault
    later = of_fields (form_in number) former bytes (fields_from bytes next)

    later_between : Between next (length bytes) later
    later_between =
        fields_from_lem bytes (form_in number) former next (field_ends bytes at h).1

    now : judged (here ++ later) (with_fields bytes (fields_from bytes next) (with_field bytes (number_at bytes at) (view_of number f provers verifiers))) ≡ fields_of number bytes start
    unfolding of_fields with_fields
    now = rw (← o.reads, one_more bytes (λ place. after_key bytes (number_at bytes place)) at h (field_ends bytes at h).0)

    pub stops : (refusal : Refusal) → r ≡ stop refusal → refused (refusal_number refusal) ≡ fields_of number bytes start
    stops refusal e =
        sym (append_refused at next (length bytes) here later (field_between bytes (form_in number) (seen_in number f.read) at h) later_between _ _ _ (sym s.reads ∙ ap (λ (q : Step). step_in number q provers' verifiers') e)) ∙ now

    module _ (read : Fields) (after : ℕ) (e : r ≡ proceed read after) where
      reached : (stage former (with_field bytes (number_at bytes at) (view_of number f provers verifiers)) next ≡ stage (seen_in number read.read) (view_of number read provers' verifiers') after)
          × (judged (here ++ later) (with_fields bytes (fields_from bytes next) (with_field bytes (number_at bytes at) (view_of number f provers verifiers)))
          ≡ judged later (with_fields bytes (fields_from bytes next) (with_field bytes (number_at bytes at) (view_of number f provers verifiers))))
      reached =
          append_read at next (length bytes) here later (field_between bytes (form_in number) (seen_in number f.read) at h) later_between _ _ _
          (sym s.reads ∙ ap (λ (q : Step). step_in number q provers' verifiers') e)

      pub further : (at < after) × (after ≤ length bytes)
      further = subst (λ (n : ℕ). (at < n) × (n ≤ length bytes)) (ap (λ (g : Stage). g.next) reached.0) (field_ends bytes at h)

      pub goes_on : Onward number bytes start read provers' verifiers' after
      goes_on = record {
        reads =
            ap (λ (g : Stage). judged (of_fields (form_in number) g.former bytes (fields_from bytes g.next)) (with_fields bytes (fields_from bytes g.next) g.message)) (sym reached.0)
            ∙ sym reached.1 ∙ now;
      }

-- The lists hold what was counted, after a field too.
pub stays_tidy : {number : ℕ} {bytes : List ℕ} {at : ℕ} {f : Fields} {provers verifiers : List ℕ} {r : Step} {provers' verifiers' : List ℕ} →
    FieldStep number bytes at f provers verifiers r provers' verifiers' → Tidy f provers verifiers → {read : Fields} {after : ℕ} → r ≡ proceed read after → Tidy read provers' verifiers'
stays_tidy {provers' = provers'} {verifiers' = verifiers'} s t e = subst (λ (q : Step). TidyStep q provers' verifiers') e (s.tidies t)
