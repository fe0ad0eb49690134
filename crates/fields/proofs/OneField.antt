-- A step over one field, by its key.
use mathlib.Core.Path.{◌≡◌, refl, sym, ap, subst, ◌∙◌}
use mathlib.Core.Bool.{Bool, true, false, cond, not, ◌||◌}
use mathlib.Core.List.{List}
use Prim.Native.Nat.{ℕ}
use lib.Dec.{eqb}
use Rattle.wire.specs.Varint.{value, fault, number_at}
use Rattle.wire.specs.Layout.{field_number, wire_type}
use Rattle.fault.specs.Fault.{leftmost, judged}
use Rattle.fault.specs.Refusals.{refusal_number}
use Rattle.fault.specs.declared.Refusal.{Refusal}
use Rattle.fault.specs.declared.Refusal.TheVariants.{UnexpectedField, WrongWireType}
use Rattle.fault.proofs.Order.{absurd_bool}
use Rattle.fields.specs.Schema.{Form, Unknown, Bytes, Provers, Verifiers, Bit, form_in, is_unknown, wrong_type}
use Rattle.fields.specs.Faults.{FieldNumbers, adding, of_content}
use Rattle.fields.specs.Message.{filled}
use Rattle.fields.specs.Fields.{Fields, Marks, Step, is_form, is_read, is_unexpected, marked, seen_in, stage, stop, view_of, with_mark}
use Rattle.fields.specs.Steps.{ContentStep, FieldStep, after_content}
use Rattle.fields.proofs.FieldSteps.{unexpected, wrongly_typed, announced, content_end}
use Rattle.fields.proofs.Forms.{one_form}

-- A form that is marked has been read, and so have those before it.
read_marked : (form other : Form) (read : Marks) → is_unknown other ≡ false → is_read form (marked other read) ≡ (is_form form other || is_read form read)
read_marked Unknown Unknown read u = absurd_bool u
read_marked Unknown Bytes read u = refl
read_marked Unknown Provers read u = refl
read_marked Unknown Verifiers read u = refl
read_marked Unknown Bit read u = refl
read_marked Bytes other read u = refl
read_marked Provers other read u = refl
read_marked Verifiers other read u = refl
read_marked Bit other read u = refl

one_marked : (m k : ℕ) (read : Marks) → is_unknown (form_in m k) ≡ false → adding k (seen_in m read) ≡ seen_in m (marked (form_in m k) read)
one_marked m k read u = λ i n. at_number n i
  where
    at_number : (n : ℕ) → (eqb n k || is_read (form_in m n) read) ≡ is_read (form_in m n) (marked (form_in m k) read)
    at_number n = ap (λ (b : Bool). b || is_read (form_in m n) read) (sym (one_form m n k u)) ∙ sym (read_marked (form_in m n) (form_in m k) read u)

neither : (b c : Bool) → b ≡ false → c ≡ false → (b || c) ≡ false
neither true c p q = absurd_bool p
neither false c p q = q

-- Why a key is refused: the field that it names is expected or not, and if it is, the wire type is wrong.
pub record Refuses (message key : ℕ) (read : Marks) (expected : Bool) : Type 0 where
  pub says : expected ≡ not (is_unexpected message (field_number key) read)
  pub mistyped : is_unexpected message (field_number key) read ≡ false → wrong_type (form_in message (field_number key)) (wire_type key) ≡ false → ⊥

module _ (number : ℕ) (bytes : List ℕ) (place : ℕ) (f : Fields) (provers verifiers : List ℕ) where
  pub key_faulty : (refusal : Refusal) → number_at bytes place ≡ fault (refusal_number refusal) →
      FieldStep number bytes place f provers verifiers (stop refusal) provers verifiers
  unfolding leftmost
  key_faulty refusal e = record { reads = rw (e); tidies = λ t. tt }

  module _ (key behind_key : ℕ) (e : number_at bytes place ≡ value key behind_key) where
    abbrev form : Form
    form = form_in number (field_number key)

    abbrev is_mistyped : Bool
    is_mistyped = wrong_type form (wire_type key)

    -- A key that does not fit.
    pub key_refused : (read : Marks) → f.read ≡ read → (expected : Bool) → Refuses number key read expected → (refusal : Refusal) → refusal ≡ cond expected WrongWireType UnexpectedField →
        FieldStep number bytes place f provers verifiers (stop refusal) provers verifiers
    key_refused read m expected h refusal r =
        subst (λ (q : Refusal). FieldStep number bytes place f provers verifiers (stop q) provers verifiers)
        (sym (r ∙ ap (λ (e : Bool). cond e WrongWireType UnexpectedField) own.says))
        (by_tests (is_unexpected number (field_number key) f.read) is_mistyped refl refl)
      where
        own : Refuses number key f.read expected
        own = subst (λ (q : Marks). Refuses number key q expected) (sym m) h

        by_tests : (b c : Bool) → is_unexpected number (field_number key) f.read ≡ b → is_mistyped ≡ c →
            FieldStep number bytes place f provers verifiers (stop (cond (not b) WrongWireType UnexpectedField)) provers verifiers
        by_tests true c u w = record { reads = rw (e) (sym (unexpected _ place _ (is_unexpected number (field_number key) f.read) is_mistyped u)); tidies = λ t. tt }
        by_tests false true u w = record { reads = rw (e) (sym (wrongly_typed _ place _ (is_unexpected number (field_number key) f.read) is_mistyped u w)); tidies = λ t. tt }
        by_tests false false u w = absurd (own.mistyped u w)

    key_fits : (form' : Form) → form ≡ form' → is_unknown form' ≡ false → is_read form' f.read ≡ false → wrong_type form' (wire_type key) ≡ false →
        (r : Step) (provers' verifiers' : List ℕ) → ContentStep form' bytes behind_key (with_mark form' f) provers verifiers r provers' verifiers' →
        FieldStep number bytes place f provers verifiers r provers' verifiers'
    key_fits form' p k u w r provers' verifiers' s' =
        let s = subst (λ (q : Form). ContentStep q bytes behind_key (with_mark q f) provers verifiers r provers' verifiers') (sym p) s' in
        let known = ap is_unknown p ∙ k in
        let fresh = neither (is_unknown form) (is_read form f.read) known (ap (λ (q : Form). is_read q f.read) p ∙ u) in
        let typed = ap (λ (q : Form). wrong_type q (wire_type key)) p ∙ w in
        record {
          reads =
              s.reads number
              ∙ ap (λ (n : FieldNumbers). judged (of_content form bytes behind_key) (stage n (filled form bytes behind_key (view_of number f provers verifiers)) (after_content form bytes behind_key)))
              (sym (one_marked number (field_number key) f.read known))
              ∙ ap (λ (n : ℕ). judged (of_content form bytes behind_key) (stage (adding (field_number key) (seen_in number f.read)) (filled form bytes behind_key (view_of number f provers verifiers)) n))
              (content_end bytes form key behind_key known typed)
              ∙ rw (e, announced place (of_content form bytes behind_key) (is_unexpected number (field_number key) f.read) is_mistyped fresh typed);
          tidies = λ t. s.tidies t;
        }

    -- A key that fits announces what its field holds.
    pub key_met : (k : ℕ) → key ≡ k → (form' : Form) → form_in number (field_number k) ≡ form' → is_unknown form' ≡ false → wrong_type form' (wire_type k) ≡ false →
        is_read form' f.read ≡ false → (r : Step) (provers' verifiers' : List ℕ) → ContentStep form' bytes behind_key (with_mark form' f) provers verifiers r provers' verifiers' →
        FieldStep number bytes place f provers verifiers r provers' verifiers'
    key_met k q form' p n w u r provers' verifiers' s =
        key_fits form' (ap (λ (i : ℕ). form_in number (field_number i)) q ∙ p) n u (ap (λ (i : ℕ). wrong_type form' (wire_type i)) q ∙ w) r provers' verifiers' s
