-- Two that meet one contract are one, since it determines the answer; on paper they are the line reader's definition. Assumes nothing.
use Prim.Native.Nat.{ℕ}
use mathlib.Core.Path.{◌≡◌, sym, ap, ◌∙◌, subst, fun_ext}
use Rattle.std.specs.Prelude.{Ok}
use Rattle.text.specs.Answer.{number_of}
use Rattle.record.specs.Place.{range_of}
use Rattle.record.specs.declared.place.Record.{Record}
use Rattle.line.specs.Line.{read_answer}
use Rattle.line.specs.Paper.{Read, read_paper}
use Rattle.line.specs.Demands.{Meets, OneReader}
use Rattle.line.proofs.Meets.{meets, one_reader}
use Rattle.line.proofs.AnswerLaws.{ok_same}
use Rattle.line.proofs.Determined.{read_paper_injective}
use Rattle.splitter.specs.Demands.{next_of, SameLine, Alike, OneSplitter, on_paper, MeetsThem, OneByThem}
use Rattle.splitter.proofs.Determined.{determined}

-- one answer is like itself
line_same : {r q : Record} {m n : ℕ} → ◌≡◌ {A = Read} (Ok (r, m)) (Ok (q, n)) → SameLine r q
line_same {r} {q} e = let d = ok_same r q e in record { ending = ap (λ (x : Record). x.ending) d; columns = λ name. ap (λ (x : Record). range_of x name) d }

alike : {one other : Read} → one ≡ other → Alike one other
alike {one} {other} e =
    record {
      number = ap (λ (x : Read). number_of (read_paper x)) e;
      next = ap next_of e;
      lines = λ r q m n a b. line_same (sym a ∙ e ∙ b);
      same = e;
    }

pub one_splitter : OneSplitter
unfolding OneSplitter
one_splitter one other g h s at = alike (determined.split_line s at (one s at) (other s at) (g.reads s at, g.keeps s at) (h.reads s at, h.keeps s at))

pub meets_them : MeetsThem
unfolding MeetsThem
meets_them read g =
    let e : read_answer ≡ on_paper read = sym (fun_ext (λ s. fun_ext (g.reads s))) in
    subst Meets e meets

pub one_by_them : OneByThem
unfolding OneByThem OneReader
one_by_them one other g h k l s at =
    alike (read_paper_injective (one s at) (other s at) (k s at) (l s at) (one_reader (on_paper one) (on_paper other) g h s at))
