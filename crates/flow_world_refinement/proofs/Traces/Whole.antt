-- From events to a whole run.
use Rattle.std.proofs.Common.{◌≡◌, Bool, List, [], ◌∷◌, ◌++◌, refl, sym, ap, ◌∙◌, subst}
use Rattle.std.specs.Prelude.{Result}
use Rattle.std.proofs.lemmas.List.{append_assoc}
use Rattle.flow_base.specs.declared.fault.OutFault.{OutFault}
use Rattle.flow_trace.specs.declared.line.Line.{Line}
use Rattle.flow_trace.specs.declared.line.Line.TheVariants as line
use Rattle.flow_class.specs.Classes.{RawTree}
use Rattle.flow_class.specs.View.{raw_of}
use Rattle.flow_code.specs.declared.program.Code.{Code}
use Rattle.flow_machine.specs.declared.host.Burst.TheVariants.{Rested}
use Rattle.flow_worldfile.specs.Worlds.{seen}
use Rattle.flow_meaning.specs.Class.{classes}
use Rattle.flow_meaning.specs.Frame.{Frame}
use Rattle.flow_meaning.specs.Process.{Proc}
use Rattle.flow_meaning.specs.Runs.{after, lines_of}
use Rattle.flow_meaning.specs.Views.{frame_spot}
use Rattle.flow_meaning.specs.World.{World, at_start}
use Rattle.flow_steps.specs.declared.process.Process.{Process}
use Rattle.flow_world.specs.Around.{Puts, no_line, more_lines}
use Rattle.flow_world.specs.Ending.{Seen}
use Rattle.flow_world.specs.Happening.{EventDoes}
use Rattle.flow_world.proofs.Putting.{puts_more, puts_one}
use Rattle.flow_world_refinement.specs.Order.Showing.{WorldRepresents}
use Rattle.flow_world_refinement.proofs.Order.Next.{same_end}
use Rattle.flow_world_refinement.proofs.Order.Started.{start_shown}
use Rattle.flow_world.specs.declared.ending.Ending.{Ending}
use Rattle.flow_world.specs.declared.ending.Ending.TheVariants.{Idle, Bound, Spent}
use Rattle.flow_world.specs.Ends.{end_line}
use Rattle.flow_world.specs.Tracing.{RunsEvents, no_event, one_more, last_answer}
use Rattle.flow_compile_laws.specs.Frames.Framed.{seen_if, Shows, ends, spent, event}
use Rattle.flow_world_refinement.specs.Traces.Traced.{EventsFollow, SpentFollows, KeepsOn, FramesShown, TraceFollows, BeginningFollows}
use Rattle.flow_world_refinement.proofs.Traces.Codes.{code_stays}
use Rattle.flow_world_refinement.proofs.Traces.Onwards.{goes_on}

module _ (Rests : Process → Proc Frame → Type 0) (Keeps : World Frame → Type 0) (IsCode : Code → Type 0) {A : Type 0} (puts : A → Line → Result (Unit {0}) OutFault → A → Type 0) (r : RawTree)
    (with_frames : Bool) where
  -- so many events ran: the world of the definitions that is shown then; how what is shown from it on is shown from the first on;
  -- and what is shown from the first on goes on from there
  pub record Went (m : World Frame) (a : A) (u : Seen) (b : A) : Type 0 where
    pub last : World Frame
    pub shows : WorldRepresents Rests u last
    pub keeps : Keeps last
    pub code : IsCode u.code
    pub text : raw_of u.code.program ≡ r
    pub lines : List Line
    pub put : Puts puts a lines b
    pub goes : (rest : List Line) → Shows (classes r) frame_spot with_frames last rest → Shows (classes r) frame_spot with_frames m (lines ++ rest)
    pub onwards : (all : List Line) → Shows (classes r) frame_spot with_frames m all
        → (rest : List Line) × (all ≡ lines ++ rest) × Shows (classes r) frame_spot with_frames last rest

  pub went : EventsFollow Rests Keeps IsCode puts r → KeepsOn Rests Keeps IsCode r → FramesShown Rests Keeps IsCode with_frames r → (w u : Seen) (m : World Frame) (a b : A) → IsCode w.code
      → raw_of w.code.program ≡ r → WorldRepresents Rests w m → Keeps m → RunsEvents puts with_frames w a u b → Went m a u b
  went law on seen_law w _ m a _ code text s k no_event = record {
    last = m;
    shows = s;
    keeps = k;
    code = code;
    text = text;
    lines = [];
    put = no_line;
    goes = λ rest run. run;
    onwards = λ all run. (all, refl, run);
  }
  went law on seen_law w v m a d code text s k (one_more {u = u} {b = b} {c = c} before does frames) =
      let so_far = went law on seen_law w u m a b code text s k before in
      let shown = law u v so_far.last b c so_far.code so_far.shows so_far.keeps does in
      let begun = shown.event.begun in
      let left = shown.event.left in
      let own = lines_of begun left in
      let next = after so_far.last begun left in
      let ongoing = (same_end Rests puts u v so_far.last b c so_far.shows).2 does in
      let kept = on so_far.last begun left so_far.keeps shown.event.begins shown.event.follows shown.rests in
      let stays = code_stays puts u v b c Rested does in
      let same_text = ap (λ (x : Code). raw_of x.program) stays ∙ so_far.text in
      let views = seen_if (classes r) frame_spot with_frames next in
      let put_views = subst (λ ls. Puts puts c ls d) (seen_law v next same_text shown.shows kept) frames in
      record {
        last = next;
        shows = shown.shows;
        keeps = kept;
        code = subst IsCode (sym stays) so_far.code;
        text = same_text;
        lines = so_far.lines ++ (own ++ views);
        put = puts_more puts a b d so_far.lines (own ++ views) so_far.put (puts_more puts b c d own views shown.event.lines put_views);
        goes = λ rest run.
            subst (λ ls. Shows (classes r) frame_spot with_frames m ls) (sym (append_assoc so_far.lines (own ++ views) rest ∙ ap (λ ls. so_far.lines ++ ls) (append_assoc own views rest)))
            (so_far.goes (own ++ (views ++ rest)) (event begun left ongoing shown.event.begins shown.event.follows shown.rests run));
        onwards = λ all run.
            let x = so_far.onwards all run in
            let y = goes_on (classes r) frame_spot with_frames so_far.last begun left x.0 ongoing shown.event.begins shown.event.follows shown.rests x.2 in
            let together = append_assoc so_far.lines (own ++ views) y.0 ∙ ap (λ ls. so_far.lines ++ ls) (append_assoc own views y.0) in
            (y.0, x.1 ∙ ap (λ ls. so_far.lines ++ ls) y.1 ∙ sym together, y.2);
      }

  -- the end of a run: the lines of its last event, if that was spent, and its last line
  record Ended (m : World Frame) (a : A) (e : Ending) (b : A) : Type 0 where
    own : List Line
    put : Puts puts a own b
    shows : Shows (classes r) frame_spot with_frames m (own ++ end_line e ∷ [])

  ended : SpentFollows Rests Keeps IsCode puts r → (w v : Seen) (m : World Frame) (a b : A) (e : Ending) → IsCode w.code → WorldRepresents Rests w m → Keeps m
      → EventDoes puts (last_answer e) w a v b → Ended m a e b
  ended law w v m a b Idle code s k does = record {
    own = [];
    put = subst (λ z. Puts puts a [] z) (sym does.2) no_line;
    shows = ends line.EndIdle ((same_end Rests puts w v m a b s).0 does);
  }
  ended law w v m a b Bound code s k does = record {
    own = [];
    put = subst (λ z. Puts puts a [] z) (sym does.3) no_line;
    shows = ends line.EndBound ((same_end Rests puts w v m a b s).1 does);
  }
  ended law w v m a b Spent code s k does =
      let shown = law w v m a b code s k does in
      record {
        own = lines_of shown.event.begun shown.event.left;
        put = shown.event.lines;
        shows = spent shown.event.begun shown.event.left ((same_end Rests puts w v m a b s).3 does) shown.event.begins shown.event.follows shown.spent;
      }

pub trace_follows :
    (Rests : Process → Proc Frame → Type 0) (Keeps : World Frame → Type 0) (IsCode : Code → Type 0) {A : Type 0} (puts : A → Line → Result (Unit {0}) OutFault → A → Type 0)
    → TraceFollows Rests Keeps IsCode puts
trace_follows Rests Keeps IsCode {A} puts with_frames c file a b e begins seen_law events spent_law t =
    let r = raw_of c in
    let first = start_shown Rests c file t.first begins.fresh t.starts in
    let so_far = went Rests Keeps IsCode puts r with_frames events begins.keeps_on seen_law t.first t.goes.last (at_start (seen file)) t.headed t.goes.before (begins.code t.first t.starts)
    (ap raw_of t.starts.code.program) first begins.keeps t.goes.goes in
    let over = ended Rests Keeps IsCode puts r with_frames spent_law t.goes.last t.left so_far.last t.goes.before t.before e so_far.code so_far.shows so_far.keeps t.goes.ends in
    let rest = so_far.lines ++ (over.own ++ end_line e ∷ []) in
    let put_rest : Puts puts t.headed rest b =
    puts_more puts t.headed t.goes.before b so_far.lines (over.own ++ end_line e ∷ []) so_far.put
    (puts_more puts t.goes.before t.before b over.own (end_line e ∷ []) over.put (puts_one puts t.before b (end_line e) t.ended))
    in (
      line.Head ∷ rest,
      record { rest = rest; shows = so_far.goes (over.own ++ end_line e ∷ []) over.shows; with_head = refl },
      more_lines t.head put_rest,
      (line.Head ∷ (so_far.lines ++ over.own), ap (λ ls. line.Head ∷ ls) (sym (append_assoc so_far.lines over.own (end_line e ∷ [])))),
    )

pub beginning_follows :
    (Rests : Process → Proc Frame → Type 0) (Keeps : World Frame → Type 0) (IsCode : Code → Type 0) {A : Type 0} (puts : A → Line → Result (Unit {0}) OutFault → A → Type 0)
    → BeginningFollows Rests Keeps IsCode puts
beginning_follows Rests Keeps IsCode {A} puts with_frames c file a b lines begins seen_law events t shown =
    let r = raw_of c in
    let first = start_shown Rests c file t.first begins.fresh t.starts in
    let so_far = went Rests Keeps IsCode puts r with_frames events begins.keeps_on seen_law t.first t.last (at_start (seen file)) t.headed b (begins.code t.first t.starts)
    (ap raw_of t.starts.code.program) first begins.keeps t.goes in
    let x = so_far.onwards shown.rest shown.shows in
    (line.Head ∷ so_far.lines, x.0, shown.with_head ∙ ap (λ ls. line.Head ∷ ls) x.1, more_lines t.head so_far.put)
