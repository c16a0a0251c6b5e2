mod ExampleNames
