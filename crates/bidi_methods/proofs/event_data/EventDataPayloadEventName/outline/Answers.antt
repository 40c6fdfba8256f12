use Rattle.bidi_methods.proofs.event_data.EventDataPayloadEventName.outline.Goals as goal

pub returns-in-ContextCreated : goal.returns-in-ContextCreated
returns-in-ContextCreated c = rw c.in-ContextCreated.is c.outline.ensures

pub returns-in-ContextDestroyed : goal.returns-in-ContextDestroyed
returns-in-ContextDestroyed c = rw c.in-ContextDestroyed.is c.outline-in-ContextDestroyed.ensures

pub returns-in-NavigationStarted : goal.returns-in-NavigationStarted
returns-in-NavigationStarted c = rw c.in-NavigationStarted.is c.outline-in-NavigationStarted.ensures

pub returns-in-DomContentLoaded : goal.returns-in-DomContentLoaded
returns-in-DomContentLoaded c = rw c.in-DomContentLoaded.is c.outline-in-DomContentLoaded.ensures

pub returns-in-Load : goal.returns-in-Load
returns-in-Load c = rw c.in-Load.is c.outline-in-Load.ensures

pub returns-in-RealmCreated : goal.returns-in-RealmCreated
returns-in-RealmCreated c = rw c.in-RealmCreated.is c.outline-in-RealmCreated.ensures

pub returns-in-RealmDestroyed : goal.returns-in-RealmDestroyed
returns-in-RealmDestroyed c = rw c.in-RealmDestroyed.is c.outline-in-RealmDestroyed.ensures

pub returns-in-EntryAdded : goal.returns-in-EntryAdded
returns-in-EntryAdded c = rw c.in-EntryAdded.is c.outline-in-EntryAdded.ensures
