-- The status of a run: what goes wrong has status 1, and a run without a fault that of its printing.
use Rattle.std.specs.Prelude.{◌≡◌, ◌≤◌, Result, Some, None}
use Rattle.lists.specs.Kit.{sym, ap, subst, ◌∙◌, inl, inr, List, ℕ, arith, take}
use Rattle.mesh.specs.Tables.{Tables}
use Rattle.calls.specs.{CallContracts.{ReadContract}, Answers.{call_number}, declared.Refusal.{Refusal}}
use Rattle.text.specs.Text.{bytes_of}
use Rattle.player.specs.{Reads.{at_end, NotFailed, Fills}, declared.input.Brought.{Brought}, declared.input.State.{State}}
use Rattle.site_program.specs.{Course.{Plays}, Inputs.{kind_of}, Names.{verb_of, numbers_of}, Given.{given_of}, Said.{Said}}
use Rattle.site_program.specs.declared.{course.Turned.{Turned}, kinds.Kind.{Kind}, kinds.Kind.TheVariants.{Script, Image}, arguments.Numbers.{Numbers}}
use Rattle.site_program.specs.declared.names.{Verb.{Verb}, Verb.TheVariants.{Help}}
use Rattle.site_program.specs.Status.{Whole, ScriptRead, SiteRead, SourceRead, ImageRead, Prints, Answers, InputAnswered, InputAnswers}
use Rattle.site_program.specs.Status.{SiteStatus}

-- ---- the input

pub whole_wrong : (end : Turned) (r : ℕ) → r ≡ 1 → Whole end r
whole_wrong end r e =
    record { few = omega (arith, e); accepted = λ z. absurd (omega (arith, e, z)); to_end = λ z. absurd (omega (arith, e, z)) }

pub whole_right : (end : Turned) (r : ℕ) → end.course.fault ≡ None → r ≤ 1 → (r ≡ 0 → end.state ≡ at_end) → Whole end r
whole_right end r a few b = record { few = few; accepted = λ z. a; to_end = b }

site_script : (b : Kind) (n : ℕ) (s : List ℕ) (st : State) (t v : Tables) → b ≡ Script → ScriptRead n s st t v → SiteRead b n s st t v
unfolding SiteRead
site_script b n s st t v e h = rw e h

site_image : (b : Kind) (n : ℕ) (s : List ℕ) (st : State) (t v : Tables) → b ≡ Image → ReadContract n s t 0 v → SiteRead b n s st t v
unfolding SiteRead
site_image b n s st t v e h = rw e h

pub source_script : (n : ℕ) (s : List ℕ) (st : State) (t v : Tables) (end : Turned) (r : ℕ) → Script ≡ kind_of s → Plays n s st t end v
    → Whole end r → SourceRead n s st t r v
source_script n s st t v end r e plays w =
    record {
      few = w.few;
      read = λ z. site_script (kind_of s) n s st t v (sym e) (record { end = end; plays = plays; accepted = w.accepted z; to_end = w.to_end z });
    }

pub source_image : (n : ℕ) (s : List ℕ) (st : State) (t v : Tables) (r : ℕ) → Image ≡ kind_of s → ImageRead n s t r v
    → SourceRead n s st t r v
source_image n s st t v r e h = record { few = h.few; read = λ z. site_image (kind_of s) n s st t v (sym e) (h.read z) }

pub image_wrong : (n : ℕ) (s : List ℕ) (t v : Tables) (r : ℕ) → r ≡ 1 → ImageRead n s t r v
image_wrong n s t v r e = record { few = omega (arith, e); read = λ z. absurd (omega (arith, e, z)) }

pub image_right : (n : ℕ) (s : List ℕ) (t v : Tables) (q : ℕ) → q ≡ 0 → ReadContract n s t q v → ImageRead n s t 0 v
image_right n s t v q e h = record { few = omega arith; read = λ z. subst (λ (x : ℕ). ReadContract n s t x v) e h }

-- ---- the answer

pub prints_wrong : (verb : Verb) (g : Numbers) (n : ℕ) (t : Tables) (r : ℕ) → r ≡ 1 → Prints verb g n t r
prints_wrong verb g n t r e = record { few = omega (arith, e); right = λ z. absurd (omega (arith, e, z)) }

pub prints_right : (verb : Verb) (g : Numbers) (n : ℕ) (t : Tables) (r : ℕ) (old : List ℕ) (text : Result ℕ Refusal) (new : List ℕ)
    → Said verb g.v g.k n t old text new → call_number text ≡ 0 → r ≤ 1 → Prints verb g n t r
prints_right verb g n t r old text new said e few =
    record { few = few; right = λ z. record { old = old; text = text; new = new; said = said; accepted = e } }

pub answers_wrong : (s : List ℕ) (st : State) (verb : Verb) (g : Numbers) (r : ℕ) → r ≡ 1 → Answers s st verb g r
answers_wrong s st verb g r e = record { few = omega (arith, e); right = λ z. absurd (omega (arith, e, z)) }

pub answers_unread : (s : List ℕ) (st : State) (verb : Verb) (g : Numbers) (r : ℕ) → r ≤ 1 → (r ≡ 0 → ⊥) → Answers s st verb g r
answers_unread s st verb g r few h = record { few = few; right = λ z. absurd (h z) }

pub answers_right : (s : List ℕ) (st : State) (verb : Verb) (g : Numbers) (r n : ℕ) (t v : Tables) (q : ℕ) → NotFailed st → q ≡ 0 → SourceRead n s st t q v
    → Prints verb g n v r → Answers s st verb g r
answers_right s st verb g r n t v q low e source prints =
    record {
      few = prints.few;
      right = λ z. record { unbroken = low; radios = n; before = t; after = v; site = source.read e; says = prints.right z };
    }

pub input_answers : (verb : Verb) (g : Numbers) (r : ℕ) (old : List ℕ) (got : Brought) (buffer : List ℕ) → Fills old got buffer
    → Answers (take got.count buffer) got.state verb g r → InputAnswers verb g r
input_answers verb g r old got buffer fills h =
    record { few = h.few; right = λ z. record { old = old; got = got; buffer = buffer; fills = fills; answered = h.right z } }

pub input_wrong : (verb : Verb) (g : Numbers) (r : ℕ) → r ≡ 1 → InputAnswers verb g r
input_wrong verb g r e = record { few = omega (arith, e); right = λ z. absurd (omega (arith, e, z)) }

-- ---- the words

module _ (w : List ℕ) (count : ℕ) (v k : List ℕ) (r : ℕ) where
  pub status_wrong : r ≡ 1 → SiteStatus w count v k r
  status_wrong e = record { few = omega (arith, e); right = λ z. absurd (omega (arith, e, z)) }

  pub status_help : w ≡ bytes_of "--help" → r ≤ 1 → SiteStatus w count v k r
  status_help e few = record { few = few; right = λ z. inl (inl e) }

  pub status_version : w ≡ bytes_of "--version" → r ≤ 1 → SiteStatus w count v k r
  status_version e few = record { few = few; right = λ z. inl (inr (inl e)) }

  pub status_page : (verb : Verb) → verb ≡ verb_of w → verb ≡ Help → r ≤ 1 → SiteStatus w count v k r
  status_page verb e f few = record { few = few; right = λ z. inl (inr (inr (sym e ∙ f))) }

  pub status_answered : (verb : Verb) (takes : ℕ) (g : Numbers) → verb ≡ verb_of w → takes ≡ numbers_of verb → Some g ≡ given_of takes count v k
      → InputAnswers verb g r → SiteStatus w count v k r
  status_answered verb takes g e f h a =
      let many : takes ≡ numbers_of (verb_of w) = f ∙ ap numbers_of e in
      record {
        few = a.few;
        right = λ z. inr (record {
          given = g;
          formed = sym (h ∙ ap (λ (x : ℕ). given_of x count v k) many);
          input = subst (λ (x : Verb). InputAnswered x g) e (a.right z);
        });
      }
