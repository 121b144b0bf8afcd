-- Worlds that are equal but for the file: what is served is served alike, or their words part.
use Rattle.std.proofs.Common.{◌≡◌, ◌≢◌, ◌⊎◌, inl, inr, ℕ, zero, suc, ◌+◌, ◌%◌, List, [], ◌∷◌, ◌++◌, length, refl, sym, subst, arith}
use Rattle.std.specs.declared.option.Option.{Option}
use Rattle.std.specs.declared.option.Option.TheVariants.{None, Some}
use Rattle.flow_trace.specs.declared.line.Line.{Line}
use Rattle.flow_worldfile.specs.Worlds as file
use Rattle.flow_draw.specs.declared.question.Question.{Question}
use Rattle.flow_draw.specs.declared.question.Question.TheVariants.{Among}
use Rattle.flow_simnet.specs.declared.packet.Fate.{Fate}
use Rattle.flow_simnet.specs.declared.packet.Fate.TheVariants.{Cut, Drawn as LostDraw, At}
use Rattle.flow_simnet.specs.Links.{width, questions_of}
use Rattle.flow_meaning.specs.Requests.{DiskCall, Request, Drew, Timer, Packet, Disks}
use Rattle.flow_meaning.specs.Process.{Proc, Engine}
use Rattle.flow_meaning.specs.Step.{Stepped, proc}
use Rattle.flow_meaning.specs.Burst as burst
use Rattle.flow_meaning.specs.Burst.{Live, live, add_lines, served, advance, advanced}
use Rattle.flow_meaning.specs.Outside.{Outside, Answers, word_in, with_asked, with_pending, sent_by, drawn_by, fate_in, after_line, send_packet, serve, supply, host}
use Rattle.flow_draw_laws.proofs.Parted.{same_or_not, Parted, parted_after, parted_from, words_of}
use Rattle.flow_draw_laws.proofs.FatesParted.{fates_split}
use Rattle.flow_draw_laws.proofs.Steps.{ByWord, same, drawn, Both, step_by}

-- a world with another seed and other words
abbrev pub reworded : file.World → (seed : ℕ) → List ℕ → file.World
reworded v seed words = record v { seed = seed; words = words }

-- the same in the world of another file
abbrev pub in_file : file.World → Outside → Outside
in_file f x = record x { file = f }

module _ (v : file.World) (seed : ℕ) (words : List ℕ) where
  abbrev w : file.World
  w = reworded v seed words

  abbrev pub Part : List Question → List Question → Type 0
  Part qs rs = Parted (words_of v) (words_of w) zero qs rs

  -- words part that are drawn now
  pub part_here : (x : Outside) (qs rs : List Question) → Parted (word_in (in_file v x)) (word_in (in_file w x)) zero qs rs
      → Part (x.asked ++ qs) (x.asked ++ rs)
  part_here x qs rs h =
      parted_after (words_of v) (words_of w) zero (length x.asked) x.asked qs rs (omega arith)
      (parted_from (words_of v) (words_of w) (length x.asked) zero (length x.asked) qs rs (omega arith) h)

  part_one : (x : Outside) (n : ℕ) → word_in (in_file v x) zero % n ≢ word_in (in_file w x) zero % n
      → Part (x.asked ++ Among n ∷ []) (x.asked ++ Among n ∷ [])
  part_one x n d = part_here x (Among n ∷ []) (Among n ∷ []) (refl, inl d)

  -- what is served
  pub data TwinServed : List Line × Outside → List Line × Outside → Type 0 where
    twin_served : (ls : List Line) (x : Outside) → TwinServed (ls, in_file v x) (ls, in_file w x)

  abbrev SplitServed : List Line × Outside → List Line × Outside → Type 0
  SplitServed r q = TwinServed r q ⊎ Part r.1.asked q.1.asked

  sent_alike : (f : Fate) (x : Outside) (m q port : ℕ) (text : List ℕ) → TwinServed (sent_by f (in_file v x) m q port text) (sent_by f (in_file w x) m q port text)
  sent_alike Cut x m q port text = twin_served _ x
  sent_alike LostDraw x m q port text = twin_served _ x
  sent_alike (At time) x m q port text = twin_served [] (with_pending x time _)

  sent_asked : (f : Fate) (x : Outside) (m q port : ℕ) (text : List ℕ) → (sent_by f x m q port text).1.asked ≡ x.asked
  sent_asked Cut x m q port text = refl
  sent_asked LostDraw x m q port text = refl
  sent_asked (At time) x m q port text = refl

  abbrev sent : file.World → Outside → Fate → (to port : ℕ) → List ℕ → List Line × Outside
  sent f x fate q port text = sent_by fate (drawn_by fate (in_file f x)) x.sent q port text

  sent_split : (x : Outside) (q port : ℕ) (text : List ℕ) (f g : Fate)
      → (f ≡ g) ⊎ Parted (word_in (in_file v x)) (word_in (in_file w x)) zero (questions_of v.loss v.latency f) (questions_of v.loss v.latency g)
      → SplitServed (sent v x f q port text) (sent w x g q port text)
  sent_split x q port text f g (inl e) =
      inl (subst (λ h. TwinServed (sent v x f q port text) (sent w x h q port text)) e
      (sent_alike f (with_asked x (questions_of v.loss v.latency f)) x.sent q port text))
  sent_split x q port text f g (inr h) =
      inr (subst (λ qs. Part (sent v x f q port text).1.asked qs) (sym (sent_asked g (drawn_by g (in_file w x)) x.sent q port text))
      (subst (λ qs. Part qs (drawn_by g (in_file w x)).asked) (sym (sent_asked f (drawn_by f (in_file v x)) x.sent q port text))
      (part_here x _ _ h)))

  after_split : (l : Line) (r q : List Line × Outside) → SplitServed r q → SplitServed (after_line l r) (after_line l q)
  after_split l r q (inl t) = inl (behind t)
    where
      behind : {r q : List Line × Outside} → TwinServed r q → TwinServed (after_line l r) (after_line l q)
      behind (twin_served ls x) = twin_served (l ∷ ls) x
  after_split l r q (inr h) = inr h

  packet_split : (x : Outside) (q port : ℕ) (text : List ℕ) → SplitServed (send_packet (in_file v x) q port text) (send_packet (in_file w x) q port text)
  packet_split x q port text =
      after_split _ _ _ (sent_split x q port text (fate_in (in_file v x) q) (fate_in (in_file w x) q)
      (fates_split (word_in (in_file v x)) (word_in (in_file w x)) _ v.loss v.latency x.time))

  abbrev disk_pending : Outside → (cell word : ℕ) → DiskCall ℕ → Outside
  disk_pending x cell word call =
      with_pending (with_asked x (Among (width v.diskdelay) ∷ [])) (x.time + (v.diskdelay.0 + word)) (Answers x.active cell call)

  disk_split : (x : Outside) (cell : ℕ) (call : DiskCall ℕ) → SplitServed (serve (Disks cell call) (in_file v x)) (serve (Disks cell call) (in_file w x))
  disk_split x cell call = by (same_or_not (word_in (in_file v x) 0 % width v.diskdelay) (word_in (in_file w x) 0 % width v.diskdelay))
    where
      by : (word_in (in_file v x) 0 % width v.diskdelay ≡ word_in (in_file w x) 0 % width v.diskdelay)
          ⊎ (word_in (in_file v x) 0 % width v.diskdelay ≢ word_in (in_file w x) 0 % width v.diskdelay)
          → SplitServed (serve (Disks cell call) (in_file v x)) (serve (Disks cell call) (in_file w x))
      by (inl e) =
          inl (subst (λ r. TwinServed (serve (Disks cell call) (in_file v x)) ([], disk_pending (in_file w x) cell r call)) e
          (twin_served [] (disk_pending x cell (word_in (in_file v x) 0 % width v.diskdelay) call)))
      by (inr d) = inr (part_one x (width v.diskdelay) d)

  serve_split : (q : Request) (x : Outside) → SplitServed (serve q (in_file v x)) (serve q (in_file w x))
  serve_split (Drew n) x = inl (twin_served [] (with_asked x (Among n ∷ [])))
  serve_split (Timer cell time) x = inl (twin_served [] (with_pending x time _))
  serve_split (Packet q port text) x = packet_split (record x { sent = suc x.sent }) q port text
  serve_split (Disks cell call) x = disk_split x cell call

  -- a step of a process in its world
  pub data TwinLive {A : Type 0} : Live Outside A → Live Outside A → Type 0 where
    twin_live : (p : Proc A) (x : Outside) → TwinLive (live p (in_file v x)) (live p (in_file w x))

  abbrev pub SplitLive : {A : Type 0} → Live Outside A → Live Outside A → Type 0
  SplitLive s t = TwinLive s t ⊎ Part s.out.asked t.out.asked

  served_split : {A : Type 0} (p : Proc A) (r q : List Line × Outside) → SplitServed r q → SplitLive (served p r) (served p q)
  served_split p r q (inl t) = inl (alike t)
    where
      alike : {r q : List Line × Outside} → TwinServed r q → TwinLive (served p r) (served p q)
      alike (twin_served ls x) = twin_live (proc (add_lines ls p.core) p.actors) x
  served_split p r q (inr h) = inr h

  asks_split : {A : Type 0} (x : Outside) (p : Proc A) (q : Option Request) → SplitLive (burst.serve host q p (in_file v x)) (burst.serve host q p (in_file w x))
  asks_split x p None = inl (twin_live p x)
  asks_split x p (Some q) = served_split p _ _ (serve_split q x)

  stepped_split : {A : Type 0} (x : Outside) (r q : Stepped A) → ByWord (word_in (in_file v x) 0) (word_in (in_file w x) 0) r q
      → SplitLive (burst.serve host r.1 r.0 (in_file v x)) (burst.serve host q.1 q.0 (in_file w x))
  stepped_split x r q (same p) = asks_split x p.0 p.1
  stepped_split x r q (drawn n c d h) = inr (part_one x n h)

  advanced_split : {A : Type 0} (x : Outside) (o q : Option (Stepped A)) → Both (ByWord (word_in (in_file v x) 0) (word_in (in_file w x) 0)) o q
      → Both SplitLive (advanced host (in_file v x) o) (advanced host (in_file w x) q)
  advanced_split x None None h = tt
  advanced_split x None (Some q) h = absurd h
  advanced_split x (Some r) None h = absurd h
  advanced_split x (Some r) (Some q) h = stepped_split x r q h

  pub advance_split : {A : Type 0} (e : Engine A) {s t : Live Outside A} → TwinLive s t → Both SplitLive (advance e host s) (advance e host t)
  advance_split e (twin_live p x) = advanced_split x _ _ (step_by e (supply (in_file v x)) (word_in (in_file w x) 0) p)
