use Rattle.flow_validate.proofs.Parting.{records_more, functions_more, records_same, functions_same, none_in_struct, none_in_function, no_records, no_functions, rest_next}
use Rattle.flow_validate.proofs.decls.apart.Goals as goal

pub loop-decl-preserved-in-Continue-1 : goal.loop-decl-preserved-in-Continue-1
loop-decl-preserved-in-Continue-1 c =
    let ys = c.loop-decl.yielded in
    let d = c.in-Some.decl in
    record {
      rest = rest_next ys c.args.decls.items d c.loop-decl.decl-iterator.rest.items c.next.new.self.rest.items c.in-Some.ensures.steps.0 c.loop-decl.invariant.rest;
      records = records_more ys d c.in-Struct.record c.loop-decl.plain.records.items c.push.new.self.items c.in-Struct.is c.in_ok-push-in-Struct.ensures.items c.loop-decl.invariant.records;
      functions = functions_same ys d c.loop-decl.plain.functions.items (none_in_struct d c.in-Struct.record c.in-Struct.is) c.loop-decl.invariant.functions;
    }

pub loop-decl-preserved-in-Continue-branch-2 : goal.loop-decl-preserved-in-Continue-branch-2
loop-decl-preserved-in-Continue-branch-2 c =
    let ys = c.loop-decl.yielded in
    let d = c.in-Some.decl in
    record {
      rest = rest_next ys c.args.decls.items d c.loop-decl.decl-iterator.rest.items c.next.new.self.rest.items c.in-Some.ensures.steps.0 c.loop-decl.invariant.rest;
      records = records_same ys d c.loop-decl.plain.records.items (none_in_function d c.in-Function.function c.in-Function.is) c.loop-decl.invariant.records;
      functions = functions_more ys d c.in-Function.function c.loop-decl.plain.functions.items c.push-in-Function.new.self.items c.in-Function.is c.in_ok-push-in-Function.ensures.items
          c.loop-decl.invariant.functions;
    }

pub loop-decl-preserved : goal.loop-decl-preserved
loop-decl-preserved c =
    let ys = c.loop-decl.yielded in
    let d = c.in-Some.decl in
    record {
      rest = rest_next ys c.args.decls.items d c.loop-decl.decl-iterator.rest.items c.next.new.self.rest.items c.in-Some.ensures.steps.0 c.loop-decl.invariant.rest;
      records = records_same ys d c.loop-decl.plain.records.items (no_records d c.in-Actor._actor c.in-Actor.is) c.loop-decl.invariant.records;
      functions = functions_same ys d c.loop-decl.plain.functions.items (no_functions d c.in-Actor._actor c.in-Actor.is) c.loop-decl.invariant.functions;
    }
