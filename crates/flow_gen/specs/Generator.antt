-- The generated program by its size, and the world in which it runs.
use Rattle.std.specs.Prelude.{ℕ, List, ◌++◌, codes, decimal}

-- what a client asks
abbrev pub ask_text : List ℕ
ask_text =
    codes "struct Ask {\n    int n;\n    Promise<int> reply;\n};\n"

-- who answers as many questions as there are clients, but for each seventh
abbrev pub server_text : List ℕ
server_text =
    codes "ACTOR Future<Void> server(FutureStream<Ask> asks, int most) {\n    state int served = 0;\n"
    ++ codes "    while (served < most) {\n        Ask a = waitNext(asks);\n        served++;\n        if (a.n % 7 != 0) {\n"
    ++ codes "            a.reply.send(a.n * 2);\n        }\n    }\n    return Void();\n}\n"

-- who waits a drawn time, asks and waits for the answer
abbrev pub client_text : List ℕ
client_text =
    codes "ACTOR Future<int> client(PromiseStream<Ask> to, int n) {\n    int d = randomInt(0, 100);\n    wait(delay(d));\n"
    ++ codes "    Promise<int> r;\n    to.send(Ask(n, r));\n    int got = wait(r.getFuture());\n    return got;\n}\n"

-- so many clients, and the sum of what they were answered
abbrev pub fan_text : List ℕ
fan_text =
    codes "ACTOR Future<int> fan(PromiseStream<Ask> to, int n) {\n    if (n == 0) {\n        return 0;\n    }\n"
    ++ codes "    state Future<int> c = client(to, n);\n    state Future<int> rest = fan(to, n - 1);\n    state int total = 0;\n"
    ++ codes "    try {\n        int v = wait(c);\n        total = v;\n    } catch (Error& e) {\n        total = 0;\n    }\n"
    ++ codes "    int w = wait(rest);\n    return total + w;\n}\n"

-- the actor of a process, up to the number of questions that its server answers, from there to that of its clients, and the rest
abbrev pub main_begin : List ℕ
main_begin =
    codes "ACTOR Future<Void> main(int p) {\n    state FutureStream<Packet> in = listen(7);\n    state PromiseStream<Ask> asks;\n"
    ++ codes "    state Future<Void> s = server(asks.getFuture(), "

abbrev pub main_clients : List ℕ
main_clients = codes ");\n    int sum = wait(fan(asks, "

abbrev pub main_end : List ℕ
main_end =
    codes "));\n    trace(sum);\n    sendTo((p + 1) % 4, 7, to_string(sum));\n    Packet k = waitNext(in);\n    trace(k.text);\n"
    ++ codes "    return Void();\n}\n"

-- who starts that many clients, and tells the next process what they came to
abbrev pub main_text : (count : List ℕ) → List ℕ
main_text count = main_begin ++ count ++ main_clients ++ count ++ main_end

-- the program with n clients in each process
abbrev pub program_text : ℕ → List ℕ
program_text n = ask_text ++ server_text ++ client_text ++ fan_text ++ main_text (decimal n)

-- its world: this seed, four processes, a million events, and a million turns an event
abbrev pub generated_world : (seed : ℕ) → List ℕ
generated_world seed =
    codes "seed " ++ decimal seed ++ codes "\nprocesses 4\nevents 1000000\nturns 1000000\n"
    ++ codes "latency 1 2\ndiskdelay 1 2\nloss 0\n"
