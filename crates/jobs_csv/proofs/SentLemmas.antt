-- What was written out, and what is buffered.
use Rattle.std.proofs.Common.{◌≡◌, ℕ, List, [], ◌++◌, Option, sym, ap, ◌∙◌, append_assoc}
use Rattle.std.specs.Io.KnownBytes.{Appends}
use Rattle.csv.proofs.WriteFacts.{appends-more, appends-none}

-- the text is what was written out, and then what is buffered
pub record IsSentOrBuffered (old now : Option (List ℕ)) (lines text : List ℕ) : Type 0 where
  pub sent : List ℕ
  pub out : Appends old now sent
  pub all : sent ++ lines ≡ text

-- nothing is written out yet
pub nothing_sent : (old : Option (List ℕ)) (lines text : List ℕ)
    → lines ≡ text
    → IsSentOrBuffered old old lines text
nothing_sent old lines text same = record { sent = []; out = appends-none old; all = same }

-- one line more is buffered
pub more_buffered : (old now : Option (List ℕ)) (lines next line text : List ℕ)
    → IsSentOrBuffered old now lines text
    → next ≡ lines ++ line
    → IsSentOrBuffered old now next (text ++ line)
more_buffered old now lines next line text k same = record {
  sent = k.sent;
  out = k.out;
  all = ap (λ l. k.sent ++ l) same ∙ sym (append_assoc k.sent lines line) ∙ ap (λ t. t ++ line) k.all;
}

-- some of it is written out
pub more_sent : (old now next : Option (List ℕ)) (lines rest out text : List ℕ)
    → IsSentOrBuffered old now lines text
    → Appends now next out
    → out ++ rest ≡ lines
    → IsSentOrBuffered old next rest text
more_sent old now next lines rest out text k sends same = record {
  sent = k.sent ++ out;
  out = appends-more old now next k.sent out k.out sends;
  all = append_assoc k.sent out rest ∙ ap (λ l. k.sent ++ l) same ∙ k.all;
}

-- all of it is written out
pub all_sent : (old now next : Option (List ℕ)) (lines text : List ℕ)
    → IsSentOrBuffered old now lines text
    → Appends now next lines
    → Appends old next text
all_sent old now next lines text k sends = rw (← k.all) (appends-more old now next k.sent lines k.out sends)
